-- THEOREM 2 of the third demand: a cell, any list of calls of `step`, refused ones among them, and at each electrode the exact scheme beside it: its statement, `SolverNear`, which proofs/Demand proves (`solver_near`). Assumes nothing.
use Rattle.std.specs.Prelude.{ℕ, ◌+◌, ◌<◌, ◌≡◌, cond, eqb, Float, get_or, replicate}
use Rattle.std.proofs.Math.Path.{refl}
use Rattle.std.proofs.Common.{ap, ◌∙◌, arith}
use mathlib.Core.List.{List, [], ◌∷◌, map}
use Rattle.fraction.specs.Fraction.{Fraction, nat, pow2, ◌-F◌, ◌*F◌, ◌/F◌, ◌within◌}
use Rattle.binary64.specs.Operators.{◌⊘◌, count}
use Rattle.binary64.specs.Value.{val}
use Rattle.diffusion.specs.Exact.{Numbers, numbers}
use Rattle.diffusion.specs.Premises.{TimeStepBound, FluxBound}
use Rattle.diffusion.specs.Run.{Grid, Move, sub_step_params, exact_run, Each}
use Rattle.diffusion.specs.Calls.{Stepper, exact_after}
use Rattle.particle.specs.Particle.{spacing, place_of}
use Rattle.solver.specs.declared.SpmSolver.{SpmSolver}
use Rattle.solver.specs.Answers.{SpmStepAnswer}
use Rattle.solver_step.specs.declared.plan.Plan.{Plan}
use Rattle.solver.specs.Cell.{cell_refusal}
use Rattle.solver_step.specs.Plans.{sub_steps_of}
use Rattle.solver.specs.Step.{current_density, plan_of, stepped}
use Rattle.solver_laws.specs.Electrodes.{Electrode, particle_at, diffusivity_in, flux_in}
use Rattle.solver_laws.specs.Stability.{sub_step_stable}
use Rattle.solver_laws.specs.Closure.{SameMake, Leads, leads, step_stays, step_make}

-- ---- what is folded
-- a call of `step`: any floats, NaN and infinities too
pub record Call : Type 0 where
  pub current : Float
  pub dt : Float
  pub temp : Float

-- what it answers, by the definition that the contract of `step` cites
abbrev pub answer : SpmSolver → Call → SpmStepAnswer
answer s q = stepped s q.current q.dt q.temp

-- the cell after a list of calls
unfoldable pub cell_after : SpmSolver → List Call → SpmSolver
cell_after s [] = s
cell_after s (q ∷ qs) = cell_after (answer s q).solver qs

-- the accepted calls, in order: those whose refusal is 0
unfoldable pub taken : SpmSolver → List Call → List Call
taken s [] = []
taken s (q ∷ qs) = cond (eqb (answer s q).refusal 0) (q ∷ taken (answer s q).solver qs) (taken (answer s q).solver qs)

-- K: the sub-steps that the answers report, none beside a refusal
unfoldable pub K : SpmSolver → List Call → ℕ
K s [] = 0
K s (q ∷ qs) = (answer s q).sub_steps + K (answer s q).solver qs

-- ---- an electrode's sub-steps
-- the plan of a call: its numbers look at the cell's sheets, config and grid, which no call changes, and not at profile or clock
abbrev pub plan_for : SpmSolver → Call → Plan
plan_for s q = plan_of s q.current q.dt q.temp

-- each sub-step of a call: the electrode's diffusivity and flux, and dt / count in binary64
abbrev pub move_by : Electrode → Plan → Float → Move
move_by e p dt = record { d_s = diffusivity_in e p; j_n = flux_in e p; dt = dt ⊘ count (sub_steps_of p) }

abbrev pub moves_by : Electrode → Plan → Float → List Move
moves_by e p dt = replicate (sub_steps_of p) (move_by e p dt)

abbrev pub grid_at : Electrode → SpmSolver → Grid
grid_at e s = record { n = (particle_at e s).n_nodes; dr = spacing (particle_at e s).params (particle_at e s).n_nodes; c_max = (particle_at e s).params.c_s_max }

-- A cell s and its calls, at one electrode: an accepted call makes its plan's count of equal sub-steps
abbrev pub steps : Electrode → SpmSolver → Stepper SpmSolver Call
steps e s = record {
  step = λ r q. (answer r q).solver;
  ok = λ r q. eqb (answer r q).refusal 0;
  moves = λ q. moves_by e (plan_for s q) q.dt;
  profile = λ r. (particle_at e r).c_s;
  grid = grid_at e s;
}

-- the binary64 numbers of a call's sub-steps, as fractions
abbrev pub numbers_at : Electrode → SpmSolver → Call → Numbers
numbers_at e s q = record {
  n = (particle_at e s).n_nodes;
  h = val (spacing (particle_at e s).params (particle_at e s).n_nodes);
  D = val (diffusivity_in e (plan_for s q));
  M = val (particle_at e s).params.c_s_max;
  flux = val (flux_in e (plan_for s q));
  t = val (q.dt ⊘ count (sub_steps_of (plan_for s q)));
}

-- the accepted calls keep 2·h·∣flux∣ ≤ D·M at an electrode
abbrev pub FluxBoundAt : Electrode → SpmSolver → List Call → Type 0
FluxBoundAt e s qs = Each (λ q. FluxBound (numbers_at e s q)) (taken s qs)

module _ (e : Electrode) (s : SpmSolver) (qs : List Call) where
  -- node i after the calls
  abbrev pub place : ℕ → Fraction
  place i = val (place_of (particle_at e (cell_after s qs)) i)

  -- x(i): the exact scheme from the same start
  abbrev pub exact_place : ℕ → Fraction
  exact_place i = get_or (exact_after (steps e s) s qs (map val (particle_at e s).c_s)) i (nat 0)

-- ---- a cell in the middle of the list
pub record Inv (s r : SpmSolver) : Type 0 where
  pub passes : cell_refusal r ≡ 0
  pub make : SameMake s r

pub itself : (s : SpmSolver) → cell_refusal s ≡ 0 → Inv s s
itself s h = record { passes = h; make = record { config = refl; sheet = λ e. refl; nodes = λ e. refl } }

-- and the cell after a call of it
pub stays : (s r : SpmSolver) (q : Call) → Inv s r → Inv s (answer r q).solver
stays s r q v =
    let m = step_make r q.current q.dt q.temp in
    record {
      passes = step_stays r q.current q.dt q.temp v.passes;
      make = record { config = m.config ∙ v.make.config; sheet = λ e. m.sheet e ∙ v.make.sheet e; nodes = λ e. m.nodes e ∙ v.make.nodes e };
    }

pub same_plan : (s r : SpmSolver) (q : Call) → SameMake s r → plan_for r q ≡ plan_for s q
unfolding plan_of current_density
same_plan s r q m = rw (m.config, m.sheet Electrode.anode, m.sheet Electrode.cathode, m.nodes Electrode.anode, m.nodes Electrode.cathode)

pub same_grid : (e : Electrode) (s r : SpmSolver) → SameMake s r → grid_at e r ≡ grid_at e s
same_grid e s r m = rw (m.sheet e, m.nodes e)

pub same_numbers : (e : Electrode) (s r : SpmSolver) (q : Call) → SameMake s r → numbers_at e r q ≡ numbers_at e s q
same_numbers e s r q m =
    ap (λ (p : Plan). numbers (sub_step_params (grid_at e r) (move_by e p q.dt))) (same_plan s r q m) ∙ ap (λ (b : Grid). numbers (sub_step_params b (move_by e (plan_for s q) q.dt))) (same_grid e s r m)

-- EVERY ACCEPTED STEP keeps 6·D·t ≤ h² at each electrode
pub accepted_stable : (e : Electrode) (s : SpmSolver) (q : Call) → (answer s q).refusal ≡ 0 → TimeStepBound (numbers_at e s q)
accepted_stable e s q = go (answer s q) (leads s q.current q.dt q.temp)
  where
    go : (a : SpmStepAnswer) → Leads s q.current q.dt q.temp a → a.refusal ≡ 0 → TimeStepBound (numbers_at e s q)
    go a (Leads.refused k) z = absurd (omega (arith, z))
    go a (Leads.moved h g f) z = sub_step_stable s q.current q.dt q.temp h g e

-- THEOREM 2. The cell passes the checks; at the electrode e every accepted call keeps 2·h·∣flux∣ ≤ D·M. Then every node of e is within K·M / 2 ^ 49 of the exact one. Nothing is asked of
-- the other electrode, nor of the length of the sub-steps.
abbrev pub SolverNear : Type 0
SolverNear = (e : Electrode) (s : SpmSolver) (qs : List Call) → cell_refusal s ≡ 0 → FluxBoundAt e s qs
    → (i : ℕ) → i < (particle_at e s).n_nodes → place e s qs i -F exact_place e s qs i within nat (K s qs) *F val (particle_at e s).params.c_s_max /F pow2 49

-- AFTER ANY LIST OF CALLS, whether they keep that bound or not, the cell passes the checks: its nodes are finite and from 0 to M
pub after_passes : (qs : List Call) (s : SpmSolver) → cell_refusal s ≡ 0 → cell_refusal (cell_after s qs) ≡ 0
unfolding cell_after
after_passes [] s h = h
after_passes (q ∷ qs) s h = after_passes qs (answer s q).solver (step_stays s q.current q.dt q.temp h)

-- ---- how the folds go on at a call, from a cell r in the middle of the list
module _ (e : Electrode) (s r : SpmSolver) (q : Call) (qs : List Call) (x : List Fraction) where
  -- an accepted one: a new cell, the exact sub-steps of its plan, K more by the count that it reports
  pub record Accepted : Type 0 where
    pub cell : cell_after r (q ∷ qs) ≡ cell_after (answer r q).solver qs
    pub exact : exact_after (steps e s) r (q ∷ qs) x ≡ exact_after (steps e s) (answer r q).solver qs (exact_run (grid_at e s) (moves_by e (plan_for s q) q.dt) x)
    pub calls : taken r (q ∷ qs) ≡ q ∷ taken (answer r q).solver qs
    pub count : K r (q ∷ qs) ≡ (answer r q).sub_steps + K (answer r q).solver qs

  -- a refused one: nothing changes
  pub record Refused : Type 0 where
    pub cell : cell_after r (q ∷ qs) ≡ cell_after r qs
    pub exact : exact_after (steps e s) r (q ∷ qs) x ≡ exact_after (steps e s) r qs x
    pub calls : taken r (q ∷ qs) ≡ taken r qs
    pub count : K r (q ∷ qs) ≡ K r qs
