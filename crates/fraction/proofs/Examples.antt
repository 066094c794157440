-- The automation at work, then closed instances: the definitions give the numbers one expects, and the laws' premises can be met.
use Rattle.std.specs.Prelude.{refl, [], ◌∷◌, pos, negsuc}
use Rattle.fraction.specs.Fraction.{Fraction, whole, nat, frac, ◌+F◌, neg_f, ◌-F◌, ◌*F◌, ◌/F◌, inv, turned, ◌≈F◌, ◌≤F◌, ◌<F◌, ◌within◌, ∣◌∣, ◌from◌to◌, ◌≤?◌, min_f, max_f, clamp_f}
use Rattle.fraction.proofs.Certificate.{quote}
use Rattle.fraction.proofs.Certificate.{ring, le_by, within_by, eq_by, up, hi, lo, num, ◌⊞◌, ◌⊠◌, ◌·◌}
use Rattle.fraction.proofs.Order.{lit≤F, lit<F, lit≈F}
use Rattle.fraction.proofs.Within.{product_error}
use Rattle.fraction.proofs.Inverse.{mul_inv, quotient_error}
use Rattle.fraction.proofs.Clamp.{clamp_apart}
use Rattle.fraction.proofs.Mean.{Weights, mean₃, mean₃_between}
use Rattle.fraction.proofs.Size.{Size, size_inv}

-- ---- the automation
-- an identity
cubes : (x y : Fraction) → (x +F y) *F (x *F x -F x *F y +F y *F y) ≈F x *F x *F x +F y *F y *F y
cubes x y = ring (x ∷ y ∷ []) (search quote depth 24) tt

-- an inequality: y + 2·z − 3·x is 3·(y − x) + 2·(z − y)
between : {x y z : Fraction} → x ≤F y → y ≤F z → nat 3 *F x ≤F y +F nat 2 *F z
between {x} {y} {z} h k = le_by (x ∷ y ∷ z ∷ []) 0 (num 3 ⊠ up h ⊞ num 2 ⊠ up k) (search quote depth 24) tt

-- a bound: the square of a number with an error, by two certificates of twice the differences
square_error : (x a : Fraction) {e M : Fraction} → x -F a within e → a within M → x *F x -F a *F a within (nat 2 *F M +F e) *F e
square_error x a {e} {M} h k = within_by (x ∷ a ∷ e ∷ M ∷ []) 1
    (num 2 ⊠ (lo h ⊠ hi k) ⊞ num 2 ⊠ (hi h ⊠ lo k) ⊞ num 2 ⊠ (hi h ⊠ lo h)) (num 2 ⊠ (lo h ⊠ lo k) ⊞ lo h ⊠ lo h ⊞ num 2 ⊠ (hi h ⊠ hi k) ⊞ hi h ⊠ hi h) (search quote depth 24) tt tt

-- an equation from an equation: x − x·(1/y)·y is x times 1 − y·(1/y)
quotient : (x : Fraction) {y : Fraction} → nat 0 <F y → x /F y *F y ≈F x
quotient x {y} p = eq_by (x ∷ y ∷ inv y ∷ []) (x · mul_inv p) (search quote depth 24) tt

-- ---- closed numbers (the operations compute where they are unfolded)
-- 2/4 is 1/2, 2/6 ≤ 1/2, −1/2 < −1/3
same : frac (pos 2) 4 tt ≈F frac (pos 1) 2 tt
same = lit≈F refl

less : frac (pos 2) 6 tt ≤F frac (pos 1) 2 tt
less = lit≤F tt

below_zero_lem : frac (negsuc 0) 2 tt <F frac (negsuc 0) 3 tt
below_zero_lem = lit<F tt

-- 1/2 − 1/3 is 1/6, the inverse of −2/3 is −3/2, the size of −3/2 is 3/2
sixth : frac (pos 1) 2 tt -F frac (pos 1) 3 tt ≈F frac (pos 1) 6 tt
unfolding ◌+F◌ neg_f
sixth = lit≈F refl

inverse : inv (frac (negsuc 1) 3 tt) ≈F frac (negsuc 2) 2 tt
unfolding inv turned
inverse = lit≈F refl

size : ∣ frac (negsuc 2) 2 tt ∣ ≈F frac (pos 3) 2 tt
unfolding ∣◌∣
size = lit≈F refl

-- the clamp of −1, 1/2 and 7 to 0 .. 3
clamped_low : clamp_f (nat 0) (nat 3) (whole (negsuc 0)) ≈F nat 0
unfolding clamp_f min_f max_f ◌≤?◌ whole
clamped_low = lit≈F refl

clamped_same : clamp_f (nat 0) (nat 3) (frac (pos 1) 2 tt) ≈F frac (pos 1) 2 tt
unfolding clamp_f min_f max_f ◌≤?◌ whole
clamped_same = lit≈F refl

clamped_high : clamp_f (nat 0) (nat 3) (nat 7) ≈F nat 3
unfolding clamp_f min_f max_f ◌≤?◌ whole
clamped_high = lit≈F refl

-- ---- premises that are met
-- 3.1 is within 1/10 of 3 and 2.1 within 1/10 of 2; so are 3.1·2.1 and 3.1/2.1 of 6 and 3/2 to what the laws say
near_three : frac (pos 31) 10 tt -F nat 3 within frac (pos 1) 10 tt
unfolding whole ◌+F◌ neg_f
near_three = record { lo = lit≤F tt; hi = lit≤F tt }

near_two : frac (pos 21) 10 tt -F nat 2 within frac (pos 1) 10 tt
unfolding whole ◌+F◌ neg_f
near_two = record { lo = lit≤F tt; hi = lit≤F tt }

in_three : nat 3 within nat 3
unfolding whole neg_f
in_three = record { lo = lit≤F tt; hi = lit≤F tt }

in_two : nat 2 within nat 2
unfolding whole neg_f
in_two = record { lo = lit≤F tt; hi = lit≤F tt }

product : frac (pos 31) 10 tt *F frac (pos 21) 10 tt -F nat 3 *F nat 2 within nat 3 *F frac (pos 1) 10 tt +F nat 2 *F frac (pos 1) 10 tt +F frac (pos 1) 10 tt *F frac (pos 1) 10 tt
product = product_error (frac (pos 31) 10 tt) (frac (pos 21) 10 tt) (nat 3) (nat 2) near_three near_two in_three in_two

two_pos : nat 0 <F nat 2
unfolding whole
two_pos = lit<F tt

near_two_pos : nat 0 <F frac (pos 21) 10 tt
unfolding whole
near_two_pos = lit<F tt

inverse_in : inv (frac (pos 21) 10 tt) within frac (pos 1) 2 tt
unfolding inv turned neg_f
inverse_in = record { lo = lit≤F tt; hi = lit≤F tt }

three_half_in : nat 3 /F nat 2 within frac (pos 3) 2 tt
unfolding whole ◌*F◌ inv turned neg_f
three_half_in = record { lo = lit≤F tt; hi = lit≤F tt }

ratio : frac (pos 31) 10 tt /F frac (pos 21) 10 tt -F nat 3 /F nat 2 within frac (pos 1) 2 tt *F (frac (pos 1) 10 tt +F frac (pos 3) 2 tt *F frac (pos 1) 10 tt)
ratio = quotient_error (frac (pos 31) 10 tt) (nat 3) near_two_pos two_pos near_three near_two inverse_in three_half_in

-- the clamp to 0 .. 3 leaves 3.1 within 1/10 of 3
clamped_near : clamp_f (nat 0) (nat 3) (frac (pos 31) 10 tt) -F clamp_f (nat 0) (nat 3) (nat 3) within frac (pos 1) 10 tt
clamped_near = clamp_apart (nat 0) (nat 3) (frac (pos 31) 10 tt) (nat 3) near_three

-- a mean of 1, 2 and 3 with the weights 1/2, 1/4 and 1/4 is from 1 to 3
quarters : Weights (frac (pos 1) 4 tt) (frac (pos 1) 4 tt)
unfolding whole ◌+F◌
quarters = record { first = lit≤F tt; second = lit≤F tt; rest = lit≤F tt }

one_in : nat 1 from nat 1 to nat 3
unfolding whole
one_in = record { lower = lit≤F tt; upper = lit≤F tt }

two_in : nat 2 from nat 1 to nat 3
unfolding whole
two_in = record { lower = lit≤F tt; upper = lit≤F tt }

three_in : nat 3 from nat 1 to nat 3
unfolding whole
three_in = record { lower = lit≤F tt; upper = lit≤F tt }

mean_of_three : mean₃ (frac (pos 1) 4 tt) (frac (pos 1) 4 tt) (nat 1) (nat 2) (nat 3) from nat 1 to nat 3
mean_of_three = mean₃_between quarters one_in two_in three_in

-- 1/8 is 2 ^ -3, at most 2 ^ 0; its inverse is from 2 ^ 0 to 2 ^ 3
eighth : Size (frac (pos 1) 8 tt) 3 0
unfolding whole ◌*F◌
eighth = record { low = lit≤F tt; high = lit≤F tt }

eight : Size (inv (frac (pos 1) 8 tt)) 0 3
eight = size_inv eighth
