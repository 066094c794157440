-- What IEEE 754 asks of a square root leaves one value: two that meet it are the same. Assumes nothing.
use mathlib.Core.Path.{◌≡◌, refl, sym, ap, ◌∙◌}
use mathlib.Core.Bool.{Bool, true, false}
use Prim.Native.Nat.{zero, suc}
use native.Mathlib.Nat.{le_antisymm, zero-lt-suc}
use lib.Dec.{T, lt→ltb}
use lib.Ieee.{Float, nan, inf, fin, binary64, fits, round}
use lib.Ieee.Positive.{num, den, den_pos}
use lib.Ieee.Scale.{round_same}
use Rattle.fraction.proofs.Order.{≤F-refl}
use Rattle.binary64.specs.Representable.{own_round}
use Rattle.square_root.specs.Standard.{natural, Nearest, SquareRoot}
use Rattle.square_root.proofs.Fractions.{natural_finite, most_val}
use Rattle.square_root.proofs.Monotone.{nearest_mono}

own : (r : Float) → T (fits binary64 r) → T (natural r) → r ≡ round binary64 false (num r) (den r)
own r f n = own_round binary64 r (natural_finite r n).0 f ∙ ap (λ (s : Bool). round binary64 s (num r) (den r)) (natural_finite r n).1

nearest_unique : (x r q : Float) → T (fits binary64 r) → T (fits binary64 q) → Nearest x r → Nearest x q → r ≡ q
nearest_unique x r q f g a b =
    let n = a.finite in
    let k = b.finite in
    own r f n
    ∙ round_same binary64 false (num r) (den r) (num q) (den q) (den_pos r) (den_pos q) (le_antisymm (most_val r q n k (nearest_mono x x r q f g a b ≤F-refl)) (most_val q r k n (nearest_mono x x q r g f b a ≤F-refl)))
    ∙ sym (own q g k)

pub unique : (x r q : Float) → SquareRoot x r → SquareRoot x q → r ≡ q
unique nan r q a b = a.none refl ∙ sym (b.none refl)
unique (inf true) r q a b = a.negative tt ∙ sym (b.negative tt)
unique (inf false) r q a b = a.infinity refl ∙ sym (b.infinity refl)
unique (fin s zero e) r q a b = a.zero s e refl ∙ sym (b.zero s e refl)
unique (fin true (suc m) e) r q a b = a.negative tt ∙ sym (b.negative tt)
unique (fin false (suc m) e) r q a b =
    let p = lt→ltb 0 (suc m) (zero-lt-suc m) in
    nearest_unique (fin false (suc m) e) r q a.format b.format (a.nearest p) (b.nearest p)
