-- Signs. A negative fraction rounds to the negative of what its size rounds to, and `round` gives its result the sign that it is handed. Assumes nothing.
use Rattle.std.specs.Prelude.{◌≡◌, ℕ, zero, suc, ◌+◌, ◌*◌, ◌^◌, Bool, true, false, not, cond, T, ltb, Float}
use Rattle.std.proofs.Math.Path.{refl}
use Rattle.std.proofs.Common.{sym, ap, ◌∙◌}
use Rattle.std.specs.Float.{nan, inf, fin, Format}
use Rattle.std.specs.Float.Ieee.{prec, emax, low, odd, units, round, neg}
use Rattle.std.specs.Float.Ieee.Fits.{round_is}
use Rattle.std.specs.Float.Ieee.Order.{drop, kept}
use Rattle.std.specs.Float.Ieee.Positive.{num, den}
use Rattle.std.specs.Float.Ieee.Scale.{finite}
use Rattle.binary64.specs.Operators.{negative}

-- ---- negation changes the sign only
pub neg_num : (x : Float) → num (neg x) ≡ num x
unfolding neg
neg_num nan = refl
neg_num (inf s) = refl
neg_num (fin s m e) = refl

pub neg_den : (x : Float) → den (neg x) ≡ den x
unfolding neg
neg_den nan = refl
neg_den (inf s) = refl
neg_den (fin s m e) = refl

pub neg_finite : (x : Float) → finite (neg x) ≡ finite x
unfolding neg
neg_finite nan = refl
neg_finite (inf s) = refl
neg_finite (fin s m e) = refl

pub neg_sign : (x : Float) → T (finite x) → negative (neg x) ≡ not (negative x)
unfolding neg
neg_sign nan p = absurd p
neg_sign (inf s) p = absurd p
neg_sign (fin s m e) p = refl

-- ---- `round` at a sign
odd_neg : (d q k l : ℕ) → odd d true q k l ≡ neg (odd d false q k l)
unfolding odd neg
odd_neg d zero k l = refl
odd_neg d (suc q) k l = refl

odd_sign : (d : ℕ) (s : Bool) (q k l : ℕ) → negative (odd d s q k l) ≡ s
unfolding odd
odd_sign d s zero k l = refl
odd_sign d s (suc q) k l = refl

units_neg : (f : Format) (q k : ℕ) → units f true q k ≡ neg (units f false q k)
unfolding units
units_neg f q k = go (ltb (q * 2 ^ k) (2 ^ (low f + suc (emax f))))
  where
    go : (z : Bool) → cond z (odd (suc (prec f)) true q k (low f)) (inf true) ≡ neg (cond z (odd (suc (prec f)) false q k (low f)) (inf false))
    go true = odd_neg (suc (prec f)) q k (low f)
    go false = unfold neg in refl

units_sign : (f : Format) (s : Bool) (q k : ℕ) → negative (units f s q k) ≡ s
unfolding units
units_sign f s q k = go (ltb (q * 2 ^ k) (2 ^ (low f + suc (emax f))))
  where
    go : (z : Bool) → negative (cond z (odd (suc (prec f)) s q k (low f)) (inf s)) ≡ s
    go true = odd_sign (suc (prec f)) s q k (low f)
    go false = refl

pub round_neg : (f : Format) (a c : ℕ) → round f true a c ≡ neg (round f false a c)
round_neg f a c = round_is f true a c ∙ units_neg f (kept (prec f) (a * 2 ^ low f) c) (drop (prec f) (a * 2 ^ low f) c) ∙ ap neg (sym (round_is f false a c))

pub round_sign : (f : Format) (s : Bool) (a c : ℕ) → negative (round f s a c) ≡ s
round_sign f s a c = ap negative (round_is f s a c) ∙ units_sign f s (kept (prec f) (a * 2 ^ low f) c) (drop (prec f) (a * 2 ^ low f) c)

-- the size of what `round` gives does not turn on the sign
pub round_num : (f : Format) (s : Bool) (a c : ℕ) → num (round f s a c) ≡ num (round f false a c)
round_num f false a c = refl
round_num f true a c = ap num (round_neg f a c) ∙ neg_num (round f false a c)

pub round_den : (f : Format) (s : Bool) (a c : ℕ) → den (round f s a c) ≡ den (round f false a c)
round_den f false a c = refl
round_den f true a c = ap den (round_neg f a c) ∙ neg_den (round f false a c)

pub round_finite : (f : Format) (s : Bool) (a c : ℕ) → finite (round f s a c) ≡ finite (round f false a c)
round_finite f false a c = refl
round_finite f true a c = ap finite (round_neg f a c) ∙ neg_finite (round f false a c)
