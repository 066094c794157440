-- What a step works with, and what is refused of it. Definitions only.
use Rattle.std.specs.Prelude.{ℕ, not, ◌&&◌, Float}
use Rattle.std.specs.Float.Ieee.{lt, neg}
use Rattle.binary64.specs.Operators.{◌⊗◌, ◌⊘◌}
use Rattle.binary64.specs.Literals.{«1e-20», «1e-8», «0·3», «4096·0»}
use Rattle.min_max.specs.MinMax.{min_of}
use Rattle.min_max.specs.Count.{ceil_of}
use Rattle.refusal.specs.Numbers.{first_refusal, refusal_unless, diffusivity, sub_steps_value}
use Rattle.refusal.specs.Ranges.{in_range}
use Rattle.electrode.specs.declared.ElectrodeParams.{ElectrodeParams}
use Rattle.electrode.specs.Sheet.{diffusivity_at}
use Rattle.particle.specs.Particle.{stable_step}
use Rattle.kinetics.specs.Kinetics.{surface_current}
use Rattle.solver_step.specs.declared.plan.Plan.{Plan}

-- the part of dt_stable, which is h² / (2·D), that a sub-step has at most
abbrev pub sub_step_factor : Float
sub_step_factor = «0·3»

-- an electrode's longest sub-step: dt_stable times a factor
abbrev pub longest_by : Float → ElectrodeParams → ℕ → Float → Float
longest_by factor e n d = stable_step e n d ⊗ factor

-- dt / dt_use, dt_use the least of dt and the electrodes' longest sub-steps
abbrev pub quotient_by : Float → ElectrodeParams → ℕ → ElectrodeParams → ℕ → Float → Float → Float → Float
quotient_by factor a n c m dt d_neg_of d_pos_of = dt ⊘ min_of (min_of dt (longest_by factor a n d_neg_of)) (longest_by factor c m d_pos_of)

abbrev pub quotient_with : ElectrodeParams → ℕ → ElectrodeParams → ℕ → Float → Float → Float → Float
quotient_with a n c m dt d_neg_of d_pos_of = quotient_by sub_step_factor a n c m dt d_neg_of d_pos_of

-- the anode's sheet and count of nodes, the cathode's, Faraday's constant, current density, interval, and both diffusivities
abbrev pub plan_by : ElectrodeParams → ℕ → ElectrodeParams → ℕ → Float → Float → Float → Float → Float → Plan
plan_by a n c m faraday j dt d_neg_of d_pos_of = record {
  d_neg = d_neg_of;
  d_pos = d_pos_of;
  j_neg = neg j ⊘ surface_current a faraday;
  j_pos = j ⊘ surface_current c faraday;
  q = quotient_with a n c m dt d_neg_of d_pos_of;
}

-- with the diffusivities at a temperature
abbrev pub plan_with : ElectrodeParams → ℕ → ElectrodeParams → ℕ → Float → Float → Float → Float → Plan
plan_with a n c m faraday j dt t = plan_by a n c m faraday j dt (diffusivity_at a t) (diffusivity_at c t)

-- corrected D from 1e-20 to 1e-8 in both electrodes; no more than 4,096 sub-steps
unfoldable pub plan_refusal : Plan → ℕ
plan_refusal p =
    first_refusal
    (refusal_unless (in_range p.d_neg «1e-20» «1e-8» && in_range p.d_pos «1e-20» «1e-8») diffusivity)
    (refusal_unless (not (lt «4096·0» p.q)) sub_steps_value)

-- the least whole number not below q
abbrev pub sub_steps_of : Plan → ℕ
sub_steps_of p = ceil_of p.q
