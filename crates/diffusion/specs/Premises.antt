-- What is asked of a sub-step: the two conditions of the demand, and ranges that every checked sheet, grid and load is well inside of. Definitions, and what they give at once.
use Rattle.std.specs.Prelude.{ℕ, ◌<◌, ◌≤◌, refl, List, T, length, get_or, Float}
use Rattle.std.specs.Float.{nan}
use Rattle.std.specs.Float.Ieee.{le, of_bits}
use Rattle.std.specs.Float.Ieee.Scale.{finite}
use Rattle.fraction.specs.Fraction.{Fraction, whole, nat, ◌*F◌, ∣◌∣, ◌≈F◌, ◌≤F◌, ◌<F◌, ◌from◌to◌}
use Rattle.fraction.proofs.Field.{≈F-sym, ≤F-of-≈F, ≤F-trans, le_of_lt}
use Rattle.fraction.proofs.Order.{lit≈F}
use Rattle.fraction.proofs.Size.{Size, size_pos}
use Rattle.binary64.specs.Order.{between_finite}
use Rattle.binary64.specs.Value.{val}
use Rattle.binary64.proofs.Value.{le_val}
use Rattle.binary64.specs.Literals.{«0·0»}
use Rattle.diffusion.specs.SubStep.{SubStepParams}
use Rattle.diffusion.specs.Exact.{Numbers, numbers}

-- the demand's two conditions, in exact fractions
abbrev pub TimeStepBound : Numbers → Type 0
TimeStepBound e = nat 6 *F e.D *F e.t ≤F e.h *F e.h

abbrev pub FluxBound : Numbers → Type 0
FluxBound e = nat 2 *F e.h *F ∣ e.flux ∣ ≤F e.D *F e.M

pub record StepConditions (e : Numbers) : Type 0 where
  pub stable : TimeStepBound e
  pub flux_bound : FluxBound e

-- `Size x e f` is 2 ^ -e ≤ x ≤ 2 ^ f; what has a size is finite
pub record ParametersInRange (v : SubStepParams) : Type 0 where
  pub n_low : 3 ≤ v.n
  pub n_high : v.n ≤ 64
  pub dr : Size (val v.dr) 100 100
  pub d_s : Size (val v.d_s) 300 300
  pub c_max : Size (val v.c_max) 100 100
  pub j_fine : T (finite v.j_n)
  pub dt_fine : T (finite v.dt)
  pub dt_low : nat 0 ≤F val v.dt

pub record Ready (v : SubStepParams) : Type 0 where
  pub ranges : ParametersInRange v
  pub conditions : StepConditions (numbers v)

-- ---- 0, and the nodes
pub zero_fine : T (finite «0·0»)
unfolding of_bits
zero_fine = tt

pub zero_val : val «0·0» ≈F nat 0
unfolding of_bits val whole
zero_val = lit≈F refl

-- a node: finite, and from 0 to M
pub record NodeInRange (M : Fraction) (x : Float) : Type 0 where
  pub fine : T (finite x)
  pub range : val x from nat 0 to M

-- a profile: each of its first n places
pub record ProfileInRange (n : ℕ) (M : Fraction) (c : List Float) : Type 0 where
  pub long : n ≤ length c
  pub nodes : (i : ℕ) → i < n → NodeInRange M (get_or c i nan)

-- a node that a program's comparisons found to be from 0 to M
pub node_tested : (x M : Float) → T (finite M) → T (le «0·0» x) → T (le x M) → NodeInRange (val M) x
node_tested x M p h k =
    let f = between_finite «0·0» x M zero_fine p h k in
    record { fine = f; range = record { lower = ≤F-trans (≤F-of-≈F (≈F-sym zero_val)) (le_val «0·0» x zero_fine f h); upper = le_val x M f p k } }

-- ---- what the exact scheme's own laws need
pub record Stable (e : Numbers) : Type 0 where
  pub n_low : 3 ≤ e.n
  pub h_pos : nat 0 <F e.h
  pub D-low : nat 0 ≤F e.D
  pub t_low : nat 0 ≤F e.t
  pub stable : TimeStepBound e

pub ready_stable : {v : SubStepParams} → Ready v → Stable (numbers v)
ready_stable r = record { n_low = r.ranges.n_low; h_pos = size_pos r.ranges.dr; D-low = le_of_lt (size_pos r.ranges.d_s); t_low = r.ranges.dt_low; stable = r.conditions.stable }
