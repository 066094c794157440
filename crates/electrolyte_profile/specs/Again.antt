-- A profile that fits, after a step whose every place is finite, fits again; a uniform one fits. Assumes nothing.
use Rattle.std.specs.Prelude.{ℕ, ◌≤◌, ◌≡◌, refl, Bool, true, false, cond, List, T, Float}
use Rattle.std.specs.Float.Ieee.{nan, le, lt, is_nan, of_bits}
use Rattle.std.specs.Float.{inf, fin}
use Rattle.binary64.specs.Order.{not→lt}
use Rattle.min_max.specs.MinMax.{max_of}
use Rattle.refusal.specs.Ranges.{finite}
use Rattle.arrays.specs.Places.{filled}
use Rattle.arrays.specs.Laws.{filled_fits}
use Rattle.electrolyte_profile.specs.declared.ElectrolyteStepParams.{ElectrolyteStepParams}
use Rattle.electrolyte_profile.specs.Places.{floor, above_floor, profile_fits}
use Rattle.electrolyte_profile.specs.Step.{node_from, node_new}

-- ---- the floor
floor_finite : T (finite floor)
unfolding of_bits
floor_finite = tt

floor_itself : T (le floor floor)
unfolding of_bits le
floor_itself = tt

not_below : (x : Float) → T (finite x) → lt x floor ≡ false → (b : Bool) → le floor x ≡ b → T (le floor x)
not_below x p h true e = rw e tt
not_below x p h false e = absurd (rw h at (not→lt x floor p floor_finite (λ k. rw e at k)))

over : (x : Float) → T (finite x) → (b : Bool) → lt x floor ≡ b → T (le floor (cond b floor x))
over x p true h = floor_itself
over x p false h = not_below x p h (le floor x) refl

-- whatever it is given, the floor gives at least 1e-10
pub floor_clamped : (x : Float) → T (le floor (max_of x floor))
unfolding is_nan lt le of_bits
floor_clamped nan = tt
floor_clamped (inf true) = tt
floor_clamped (inf false) = tt
floor_clamped (fin s m e) = over (fin s m e) tt (lt (fin s m e) floor) refl

pub node_floor : (v : ElectrolyteStepParams) (c : List Float) (i : ℕ) → T (le floor (node_new v c i))
unfolding node_new node_from
node_floor v c i = floor_clamped _

-- ---- a uniform profile
pub uniform_fits : (x : Float) (n : ℕ) → n ≤ 96 → T (above_floor x) → T (profile_fits (filled 96 x n) n)
unfolding profile_fits
uniform_fits x n small t = filled_fits above_floor 96 n x small t
