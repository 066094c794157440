-- Numbers that are not negative as fractions of natural numbers: their order, and the square of a sum, by cross products. Assumes nothing.
use mathlib.Core.Path.{◌≡◌, refl, ap, ◌∙◌}
use mathlib.Core.Bool.{Bool, true, false, true≢false}
use Prim.Native.Nat.{ℕ, ◌+◌, ◌*◌, ◌≤◌, ◌<◌}
use native.Mathlib.Nat.{one-mul}
use lib.Dec.{T}
use lib.Ieee.{Float, nan, inf, fin}
use lib.Ieee.Positive.{num, den, den_pos, positive}
use lib.Ieee.Exact.{HasValue}
use lib.Ieee.Scale.{finite}
use Rattle.fraction.specs.Integer.{≤-pos, pos-<, <-pos}
use Rattle.fraction.specs.Fraction.{whole, nat, ◌+F◌, ◌*F◌, ◌≤F◌, ◌<F◌}
use Rattle.binary64.specs.Operators.{negative}
use Rattle.binary64.specs.Value.{ratio, ratio_le, signed, val, val_is}
use Rattle.square_root.specs.Standard.{natural, square}

pub natural_finite : (x : Float) → T (natural x) → T (finite x) × (negative x ≡ false)
natural_finite nan n = absurd n
natural_finite (inf s) n = absurd n
natural_finite (fin true m e) n = absurd n
natural_finite (fin false m e) n = (tt, refl)

pub positive_natural : (x : Float) → T (positive x) → T (natural x)
positive_natural nan p = p
positive_natural (inf s) p = absurd p
positive_natural (fin true m e) p = absurd p
positive_natural (fin false m e) p = tt

pub value_natural : (x : Float) (a c : ℕ) → HasValue x false a c → T (natural x)
value_natural nan a c h = absurd h
value_natural (inf s) a c h = absurd h
value_natural (fin true m e) a c h = absurd (true≢false h.0)
value_natural (fin false m e) a c h = tt

natural_val : (x : Float) → T (natural x) → val x ≡ ratio (num x) (den x) (den_pos x)
natural_val x n = let f = natural_finite x n in val_is x f.0 ∙ ap (λ (s : Bool). signed s (ratio (num x) (den x) (den_pos x))) f.1

pub less : (y r : Float) → T (natural y) → T (natural r) → val y <F val r → num y * den r < num r * den y
less y r n k h = <-pos (rw (natural_val y n, natural_val r k) at h).cross

pub val_most : (x y : Float) → T (natural x) → T (natural y) → num x * den y ≤ num y * den x → val x ≤F val y
val_most x y n k h = rw (natural_val x n, natural_val y k) (ratio_le h)

pub most_val : (x y : Float) → T (natural x) → T (natural y) → val x ≤F val y → num x * den y ≤ num y * den x
most_val x y n k h = ≤-pos (rw (natural_val x n, natural_val y k) at h).cross

module _ (x r y : Float) (nx : T (natural x)) (nr : T (natural r)) (ny : T (natural y)) where
  pub middle_below : (num r * den y + num y * den r) * (num r * den y + num y * den r) * den x < 4 * num x * (den r * den y * (den r * den y)) → square (val r +F val y) <F nat 4 *F val x
  unfolding whole ◌+F◌ ◌*F◌
  middle_below h = rw (natural_val x nx, natural_val r nr, natural_val y ny) (record { cross = rw (one-mul (den x)) (pos-< h) })

  pub middle_above : 4 * num x * (den r * den y * (den r * den y)) < (num r * den y + num y * den r) * (num r * den y + num y * den r) * den x → nat 4 *F val x <F square (val r +F val y)
  unfolding whole ◌+F◌ ◌*F◌
  middle_above h = rw (natural_val x nx, natural_val r nr, natural_val y ny) (record { cross = rw (one-mul (den x)) (pos-< h) })
