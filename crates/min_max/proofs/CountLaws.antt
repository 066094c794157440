-- The least whole number not below q: `ceil_div` is the least, and the whole part of q, or one more, is it. Assumes nothing.
use Rattle.std.proofs.Common.{◌≡◌, ℕ, zero, suc, ◌+◌, ◌-◌, ◌*◌, ◌/◌, ◌^◌, ◌<◌, ◌≤◌, min, Bool, true, false, T, ltb, ℤ, pos, negsuc, sym, refl, ap, ◌∙◌, subst, true≢false, le_trans, le_of_eq, le_refl, lt_of_le_of_lt, le_of_lt, mul-le-mul_right, div-lt_iff_lt-mul, add-mul, mul-lt-mul_of_pos_right, le-div_iff_mul-le, mul-one, div-le_self, mul_right_comm, div-mul-le_self, div-one, arith, lit<, pow_pos, ltb-false, ltb-true, le-ltb, lt-ltb}
use mathlib.Core.Bool.{false≢true}
use native.Mathlib.Nat.{div-eq_of_lt-le, lt_of_not-le}
use native.Mathlib.Decide.{dec_le}
use lib.Ieee.{Float, nan, inf, fin, binary64, up, down, lt, fits, of_int, round, to_unsigned}
use lib.Ieee.Back.{round_whole}
use lib.Ieee.Exact.{HasValue}
use lib.Ieee.Fits.{down_pos}
use lib.Ieee.Positive.{num, den, den_pos, positive}
use Rattle.square_root.proofs.Monotone.{positive_num}
use Rattle.binary64.specs.Representable.{own_round}
use Rattle.min_max.specs.Count.{ceil_div, ceil_of}
use Rattle.min_max.proofs.Format.{representable}

after : (n : ℕ) → n < n + 1
after n = omega arith

-- ---- `ceil_div a d` is the least n with a ≤ n * d
pub ceil_reaches : (a d : ℕ) → 0 < d → a ≤ ceil_div a d * d
ceil_reaches a d p =
    let l : a + (d - 1) < (ceil_div a d + 1) * d = (div-lt_iff_lt-mul p).0 (after (ceil_div a d)) in
    omega (arith, add-mul (ceil_div a d) 1 d)

pub ceil_least : (a d n : ℕ) → 0 < d → a ≤ n * d → ceil_div a d ≤ n
ceil_least a d n p h =
    let l : ceil_div a d < n + 1 = (div-lt_iff_lt-mul p).1 (omega (arith, add-mul n 1 d)) in
    omega arith

-- ---- the whole part n of a / d: it is the ceiling, or one less
ceil_at : (a d : ℕ) → 0 < d → a ≤ a / d * d → a / d ≡ ceil_div a d
ceil_at a d p h =
    let l : a / d * d ≤ a + (d - 1) = omega (arith, div-mul-le_self a d) in
    sym (div-eq_of_lt-le d l (omega (arith, add-mul (a / d) 1 d)))

ceil_next : (a d : ℕ) → 0 < d → a / d * d < a → a / d + 1 ≡ ceil_div a d
ceil_next a d p h =
    let u : a < (a / d + 1) * d = (div-lt_iff_lt-mul p).0 (after (a / d)) in
    sym (div-eq_of_lt-le d (omega (arith, add-mul (a / d) 1 d)) (omega (arith, add-mul (a / d) 1 d, add-mul (a / d + 1) 1 d)))

-- ---- whether the float of the whole part is below the number
ltb_scaled : (x y z : ℕ) → 0 < z → ltb (x * z) (y * z) ≡ ltb x y
ltb_scaled x y z p = go (ltb x y) refl
  where
    go : (b : Bool) → ltb x y ≡ b → ltb (x * z) (y * z) ≡ b
    go true h = lt-ltb (x * z) (y * z) (mul-lt-mul_of_pos_right (ltb-true x y h) p)
    go false h = le-ltb (x * z) (y * z) (mul-le-mul_right z (ltb-false x y h))

-- r is the whole number n
lt_whole : (r : Float) (n m : ℕ) (e : ℤ) → HasValue r false n 1 → lt r (fin false m e) ≡ ltb (n * down e) (m * up e)
unfolding lt
lt_whole nan n m e v = absurd v
lt_whole (inf s) n m e v = absurd v
lt_whole (fin true k d) n m e v = absurd (true≢false v.0)
lt_whole (fin false k d) n m e v =
    ap (λ (x : ℕ). ltb (x * down e) (m * up e * down d)) (sym (mul-one (k * up d)) ∙ v.1)
    ∙ ap (λ (x : ℕ). ltb x (m * up e * down d)) (mul_right_comm n (down d) (down e))
    ∙ ltb_scaled (n * down e) (m * up e) (down d) (down_pos d)

lt_itself : (m : ℕ) (e : ℤ) → lt (fin false m e) (fin false m e) ≡ false
unfolding lt
lt_itself m e = le-ltb (m * up e * down e) (m * up e * down e) (le_refl (m * up e * down e))

-- whether r, the float of the whole part n of q, is below q decides between n + 1 and n
pub record Counted (q : Float) (n : ℕ) (r : Float) : Type 0 where
  pub next : lt r q ≡ true → min (n + 1) (2 ^ 64 - 1) ≡ ceil_of q
  pub same : lt r q ≡ false → n ≡ ceil_of q

abbrev pub CountedBy : Float → ℕ → Type 0
CountedBy q n = Counted q n (of_int binary64 (pos n))

-- a whole number is the float of its whole part
whole_counted : (m j : ℕ) → T (fits binary64 (fin false m (pos j))) → m * 2 ^ j < 2 ^ 64 → CountedBy (fin false m (pos j)) (to_unsigned 64 (fin false m (pos j)))
unfolding of_int to_unsigned ceil_of
whole_counted m j f l =
    let a = m * 2 ^ j in
    let n : min (a / 1) (2 ^ 64 - 1) ≡ a = ap (λ (x : ℕ). min x (2 ^ 64 - 1)) (div-one a) ∙ omega arith in
    let r : of_int binary64 (pos (min (a / 1) (2 ^ 64 - 1))) ≡ fin false m (pos j) = ap (λ (x : ℕ). of_int binary64 (pos x)) n ∙ sym (own_round binary64 (fin false m (pos j)) tt f) in
    record {
      next = λ h. absurd (false≢true (sym (lt_itself m (pos j)) ∙ ap (λ (x : Float). lt x (fin false m (pos j))) (sym r) ∙ h));
      same = λ h. ap (λ (x : ℕ). min x (2 ^ 64 - 1)) (ceil_at a 1 (lit< tt) (le_of_eq (sym (mul-one (a / 1) ∙ div-one a))));
    }

-- any other number is below 2 ^ 53, and so is its whole part
part_counted : (m j : ℕ) → m < 2 ^ 53 → CountedBy (fin false m (negsuc j)) (to_unsigned 64 (fin false m (negsuc j)))
unfolding of_int to_unsigned ceil_of
part_counted m j l =
    let a = m * 1 in
    let d = 2 ^ suc j in
    let u : a / d < 2 ^ 53 = lt_of_le_of_lt (div-le_self a d) (omega arith) in
    let n : min (a / d) (2 ^ 64 - 1) ≡ a / d = omega arith in
    let t : lt (of_int binary64 (pos (a / d))) (fin false m (negsuc j)) ≡ ltb (a / d * d) a = lt_whole (of_int binary64 (pos (a / d))) (a / d) m (negsuc j) (round_whole binary64 false (a / d) (le_of_lt u)) in
    subst (CountedBy (fin false m (negsuc j))) (sym n) (record {
      next = λ h. let e = ceil_next a d (pow_pos (suc j)) (ltb-true (a / d * d) a (sym t ∙ h)) in omega arith;
      same = λ h. let e = ceil_at a d (pow_pos (suc j)) (ltb-false (a / d * d) a (sym t ∙ h)) in omega arith;
    })

-- 2 ^ 64 and above
large_counted : (m j : ℕ) → 2 ^ 64 ≤ m * 2 ^ j → CountedBy (fin false m (pos j)) (to_unsigned 64 (fin false m (pos j)))
unfolding to_unsigned ceil_of
large_counted m j h =
    let a = m * 2 ^ j in
    let n : a / 1 ≡ a = div-one a in
    let l : a ≤ ceil_div a 1 * 1 = ceil_reaches a 1 (lit< tt) in
    record { next = λ k. omega arith; same = λ k. omega arith }

pub counted : (q : Float) → T (fits binary64 q) → CountedBy q (to_unsigned 64 q)
unfolding lt of_int round to_unsigned ceil_of
counted nan f = record { next = λ h. absurd (false≢true h); same = λ h. refl }
counted (inf true) f = record { next = λ h. absurd (false≢true h); same = λ h. refl }
counted (inf false) f = record { next = λ h. refl; same = λ h. refl }
counted (fin true m e) f = record { next = λ h. absurd (false≢true h); same = λ h. refl }
counted (fin false m (pos j)) f = elim (dec_le (2 ^ 64) (m * 2 ^ j)) [ yes h ↦ large_counted m j h | no n ↦ whole_counted m j f (lt_of_not-le n) ]
counted (fin false zero (negsuc j)) f = part_counted 0 j (lit< tt)
counted (fin false (suc m) (negsuc j)) f = part_counted (suc m) j (representable false m (negsuc j) f).digits

-- ---- the count as a caller needs it: q is not above it, it is the least such, and above zero it is 1 at least
module _ (q : Float) (p : T (positive q)) where
  number : ceil_of q ≡ min (ceil_div (num q) (den q)) (2 ^ 64 - 1)
  unfolding ceil_of
  number = go q p
    where
      go : (q : Float) → T (positive q) → ceil_of q ≡ min (ceil_div (num q) (den q)) (2 ^ 64 - 1)
      go nan p = absurd p
      go (inf s) p = absurd p
      go (fin true m e) p = absurd p
      go (fin false m e) p = refl

  pub count_reaches : ceil_of q < 2 ^ 64 - 1 → num q ≤ ceil_of q * den q
  count_reaches h =
      let e : ceil_of q ≡ ceil_div (num q) (den q) = omega (arith, number) in
      le_trans (ceil_reaches (num q) (den q) (den_pos q)) (le_of_eq (ap (λ (n : ℕ). n * den q) (sym e)))

  pub count_least : (n : ℕ) → num q ≤ n * den q → ceil_of q ≤ n
  count_least n h = let l = ceil_least (num q) (den q) n (den_pos q) h in omega (arith, number)

  pub count_positive : 1 ≤ ceil_of q
  count_positive =
      let l : 1 ≤ ceil_div (num q) (den q) = (le-div_iff_mul-le (den_pos q)).1 (omega (arith, positive_num q p, den_pos q)) in
      omega (arith, number)
