-- `refusal::is_finite` meets its contract: a number less itself is zero, and an infinity or a NaN less itself is a NaN. Assumes nothing.
use mathlib.Core.Path.{◌≡◌, refl, sym, ap, ◌∙◌}
use mathlib.Core.Bool.{Bool, true, false, not, ◌&&◌, cond, beq}
use Prim.Native.Nat.{ℕ, ◌<◌, ◌+◌, ◌-◌, ◌*◌}
use lib.Dec.{ltb}
use native.Mathlib.Nat.{sub_self, le_refl, mul-pos, zero-mul, zero-lt-suc}
use borrow.Author.Tests.{le-ltb}
use lib.Ieee.{Float, nan, inf, fin, binary64, up, down, round, sum, add, neg, eq, sub, of_bits}
use lib.Ieee.Fits.{down_pos}
use lib.Ieee.Scale.{finite, round_same}
use Rattle.refusal.proofs.is_finite.Goals as goal

round-zero : (c : ℕ) → 0 < c → round binary64 false 0 c ≡ of_bits binary64 0
unfolding round of_bits
round-zero c h = round_same binary64 false 0 c 0 1 h (zero-lt-suc 0) (zero-mul 1 ∙ sym (zero-mul c))

unequal : (s : Bool) (x y : Float) → cond (beq s (not s)) x y ≡ y
unequal true x y = refl
unequal false x y = refl

no_sign : (s : Bool) → s && false ≡ false
no_sign true = refl
no_sign false = refl

cancels : (s : Bool) (a c : ℕ) → 0 < c → sum binary64 s a (not s) a c ≡ of_bits binary64 0
unfolding sum
cancels s a c h =
    unequal s (round binary64 s (a + a) c) (cond (ltb a a) (round binary64 (not s) (a - a) c) (round binary64 (s && ltb a a) (a - a) c))
    ∙ ap (λ (b : Bool). cond b (round binary64 (not s) (a - a) c) (round binary64 (s && b) (a - a) c)) (le-ltb a a (le_refl a))
    ∙ ap (λ (b : Bool). round binary64 b (a - a) c) (no_sign s)
    ∙ ap (λ (n : ℕ). round binary64 false n c) (sub_self a)
    ∙ round-zero c h

less-itself : (x : Float) → eq (sub binary64 x x) (of_bits binary64 0) ≡ finite x
unfolding sub add neg eq of_bits
less-itself nan = refl
less-itself (inf false) = refl
less-itself (inf true) = refl
less-itself (fin s m e) = rw (cancels s (m * up e * down e) (down e * down e) (mul-pos (down_pos e) (down_pos e)))

pub returns : goal.returns
returns c =
    less-itself c.args.x
