-- What a step does on lent profiles once its plan stands. Definitions only.
use Rattle.std.specs.Prelude.{ℕ, Bool, cond, ◌&&◌, List, Float}
use Rattle.binary64.specs.Operators.{◌⊕◌, ◌⊘◌, count}
use Rattle.refusal.specs.Numbers.{not_finite_of}
use Rattle.iterate.specs.Iterate.{times}
use Rattle.diffusion.specs.SubStep.{sub_step}
use Rattle.profile.specs.Places.{finite_profile}
use Rattle.particle.specs.declared.ParticleDiffusion.{ParticleDiffusion}
use Rattle.particle.specs.Particle.{particle_of, sub_step_params_of}
use Rattle.solver_step.specs.declared.plan.Plan.{Plan}
use Rattle.solver_step.specs.Plans.{sub_steps_of}
use Rattle.solver_step.specs.declared.report.SpmState.{SpmState}
use Rattle.solver_step.specs.Report.{surface_state, report_with, finite_with, no_state}
use Rattle.solver_step.specs.declared.SpmParts.{SpmParts}
use Rattle.solver_step.specs.declared.SpmNodes.{SpmNodes}
use Rattle.solver_step.specs.Answers.{SpmReported}

-- that many sub-steps of dt / count
unfoldable pub profile_after : ParticleDiffusion → Float → Float → Float → ℕ → List Float
profile_after p d j dt k = times k (sub_step (sub_step_params_of p d j (dt ⊘ count k))) p.c_s

-- an answer, and the profiles that it leaves
pub record StepInPlace : Type 0 where
  pub moved : SpmReported
  pub neg : List Float
  pub pos : List Float

abbrev pub step_in_place : SpmReported → List Float → List Float → StepInPlace
step_in_place r a c = record { moved = r; neg = a; pos = c }

abbrev pub refused_move : ℕ → SpmReported
refused_move k = record { refusal = k; state = no_state; sub_steps = 0 }

-- ---- a plan followed
-- the parts of a cell with these counts of nodes
abbrev pub counted : SpmParts → SpmNodes → SpmParts
counted q n = record { config = q.config; neg = q.neg; n_neg = n.neg; pos = q.pos; n_pos = n.pos; time_s = q.time_s }

-- both profiles after the sub-steps
abbrev pub neg_after : SpmParts → Plan → List Float → Float → List Float
neg_after q p a dt = profile_after (particle_of q.neg q.n_neg a) p.d_neg p.j_neg dt (sub_steps_of p)

abbrev pub pos_after : SpmParts → Plan → List Float → Float → List Float
pos_after q p c dt = profile_after (particle_of q.pos q.n_pos c) p.d_pos p.j_pos dt (sub_steps_of p)

-- the report of two profiles with the fluxes of the plan, the clock raised once by dt
unfoldable pub report_on : SpmParts → Plan → List Float → List Float → Float → Float → Float → SpmState
report_on q p a c i dt t =
    report_with q.config (i ⊘ q.neg.area) (surface_state q.config (particle_of q.neg q.n_neg a) p.j_neg t)
    (surface_state q.config (particle_of q.pos q.n_pos c) p.j_pos t) i (q.time_s ⊕ dt)

-- no NaN and no infinity in two profiles and their report
unfoldable pub finite_on : List Float → List Float → SpmState → Bool
finite_on a c r = finite_with (finite_profile a && finite_profile c) r

-- new profiles and their report; where a number is not finite, 8 and the old profiles a and c
unfoldable pub finished_on : Plan → List Float → List Float → List Float → List Float → SpmState → StepInPlace
finished_on p a c a' c' r =
    cond (finite_on a' c' r) (step_in_place (record { refusal = 0; state = r; sub_steps = sub_steps_of p }) a' c') (step_in_place (refused_move not_finite_of) a c)

unfoldable pub followed_on : SpmParts → Plan → List Float → List Float → Float → Float → Float → StepInPlace
followed_on q p a c i dt t =
    finished_on p a c (neg_after q p a dt) (pos_after q p c dt)
    (report_on q p (neg_after q p a dt) (pos_after q p c dt) i dt t)
