-- Squares of natural numbers, and of one in two halves. Assumes nothing.
use mathlib.Core.Path.{◌≡◌, refl, sym, ap, ◌∙◌, subst}
use mathlib.Core.Bool.{Bool, true, false, ◌&&◌}
use Prim.Native.Nat.{ℕ, ◌+◌, ◌-◌, ◌*◌, ◌/◌, ◌%◌, ◌^◌, ◌≤◌, ◌<◌}
use native.Mathlib.Nat.{lt_of_not-le, not-le_of_lt, mul_comm, mul_assoc, mul_left_comm, mul-add, add-mul, mul-le-mul}
use native.Mathlib.Omega.{arith}
use lib.Dec.{T, leb, ltb, leb→le, ltb→lt}
use lib.Ieee.Fits.{and_l, and_r}
use borrow.Author.Tests.{ltb-true, ltb-false, lt-ltb, le-ltb, le-leb, lt-leb}
use Rattle.square_root.specs.Whole.{Squared, NearestWhole}

pub square_2 : (q : ℕ) → q * 2 * (q * 2) ≡ 4 * (q * q)
square_2 q = simp (mul_assoc, mul_comm, mul_left_comm) (omega arith)

pub square_1 : (q : ℕ) → (q + 1) * (q + 1) ≡ q * q + 2 * q + 1
square_1 q =
    let a : (q + 1) * (q + 1) ≡ q * q + 1 * q + (q * 1 + 1 * 1) = mul-add (q + 1) q 1 ∙ ap (λ (x : ℕ). x + (q + 1) * 1) (add-mul q 1 q) ∙ ap (λ (x : ℕ). q * q + 1 * q + x) (add-mul q 1 1) in
    omega arith

pub square_21 : (q : ℕ) → (q * 2 + 1) * (q * 2 + 1) ≡ 4 * (q * q) + 4 * q + 1
square_21 q = omega (arith, square_1 (q * 2), square_2 q)

-- squares keep the order
pub square_lt : (a b : ℕ) → a * a < b * b → a < b
square_lt a b h = lt_of_not-le (λ (g : b ≤ a). not-le_of_lt h (mul-le-mul g g))

-- ---- the square of n, from its halves
square_split : (b h l : ℕ) → (h * b + l) * (h * b + l) ≡ h * h * (b * b) + h * l * 2 * b + l * l
square_split b h l =
    let a : (h * b + l) * (h * b + l) ≡ h * b * (h * b) + l * (h * b) + (h * b * l + l * l) = mul-add (h * b + l) (h * b) l ∙ ap (λ (x : ℕ). x + (h * b + l) * l) (add-mul (h * b) l (h * b)) ∙ ap (λ (x : ℕ). h * b * (h * b) + l * (h * b) + x) (add-mul (h * b) l l) in
    let p : h * b * (h * b) ≡ h * h * (b * b) = simp (mul_assoc, mul_comm, mul_left_comm) in
    let q : l * (h * b) ≡ h * l * b = simp (mul_assoc, mul_comm, mul_left_comm) in
    let r : h * b * l ≡ h * l * b = simp (mul_assoc, mul_comm, mul_left_comm) in
    let s : h * l * 2 * b ≡ 2 * (h * l * b) = simp (mul_assoc, mul_comm, mul_left_comm) in
    omega arith

-- the products of the halves
pub record Halves (h l : ℕ) : Type 0 where
  pub hh : h * h ≤ 2 ^ 54
  pub hl : h * l ≤ 2 ^ 53 - 2 ^ 27
  pub ll : l * l ≤ 2 ^ 52 - 2 ^ 27 + 1

pub halves : (n : ℕ) → n ≤ 2 ^ 53 → Halves (n / 2 ^ 26) (n % 2 ^ 26)
halves n k =
    let a : n / 2 ^ 26 ≤ 2 ^ 27 = omega arith in
    let b : n % 2 ^ 26 ≤ 2 ^ 26 - 1 = omega arith in
    record { hh = mul-le-mul a a; hl = mul-le-mul a b; ll = mul-le-mul b b }

pub squared_is : (n : ℕ) → n ≤ 2 ^ 53
    → Squared n (n / 2 ^ 26 * (n / 2 ^ 26) + n / 2 ^ 26 * (n % 2 ^ 26) * 2 / 2 ^ 26) (n / 2 ^ 26 * (n % 2 ^ 26) * 2 % 2 ^ 26 * 2 ^ 26 + n % 2 ^ 26 * (n % 2 ^ 26))
squared_is n k =
    let p = halves n k in
    let e : n ≡ n / 2 ^ 26 * 2 ^ 26 + n % 2 ^ 26 = omega arith in
    let f : n * n ≡ (n / 2 ^ 26 * 2 ^ 26 + n % 2 ^ 26) * (n / 2 ^ 26 * 2 ^ 26 + n % 2 ^ 26) = ap (λ (x : ℕ). x * x) e in
    record { same = omega (arith, square_split (2 ^ 26) (n / 2 ^ 26) (n % 2 ^ 26)); high_most = omega arith; low_most = omega arith }

-- ---- a number in two words against x * 2 ^ 52
pub words_lt : (a b y x : ℕ) → a * 2 ^ 52 + b ≡ y → ltb (a + b / 2 ^ 52) x ≡ ltb y (x * 2 ^ 52)
words_lt a b y x e = go (ltb y (x * 2 ^ 52)) refl
  where
    go : (t : Bool) → ltb y (x * 2 ^ 52) ≡ t → ltb (a + b / 2 ^ 52) x ≡ t
    go true h = let l = ltb-true y (x * 2 ^ 52) h in lt-ltb (a + b / 2 ^ 52) x (omega arith)
    go false h = let l = ltb-false y (x * 2 ^ 52) h in le-ltb (a + b / 2 ^ 52) x (omega arith)

-- with two words more on both sides, so that n can be taken off
pub words_lt_more : (a b y n x : ℕ) → a * 2 ^ 52 + b + n ≡ y + 2 ^ 53 → ltb (a + b / 2 ^ 52) (x + 2) ≡ ltb y (x * 2 ^ 52 + n)
words_lt_more a b y n x e = go (ltb y (x * 2 ^ 52 + n)) refl
  where
    go : (t : Bool) → ltb y (x * 2 ^ 52 + n) ≡ t → ltb (a + b / 2 ^ 52) (x + 2) ≡ t
    go true h = let l = ltb-true y (x * 2 ^ 52 + n) h in lt-ltb (a + b / 2 ^ 52) (x + 2) (omega arith)
    go false h = let l = ltb-false y (x * 2 ^ 52 + n) h in le-ltb (a + b / 2 ^ 52) (x + 2) (omega arith)

pub words_le : (a b y x : ℕ) → a * 2 ^ 52 + b ≡ y → leb x (a + b / 2 ^ 52) ≡ leb (x * 2 ^ 52) y
words_le a b y x e = go (ltb y (x * 2 ^ 52)) refl
  where
    go : (t : Bool) → ltb y (x * 2 ^ 52) ≡ t → leb x (a + b / 2 ^ 52) ≡ leb (x * 2 ^ 52) y
    go true h = let l = ltb-true y (x * 2 ^ 52) h in lt-leb x (a + b / 2 ^ 52) (omega arith) ∙ sym (lt-leb (x * 2 ^ 52) y l)
    go false h = let l = ltb-false y (x * 2 ^ 52) h in le-leb x (a + b / 2 ^ 52) (omega arith) ∙ sym (le-leb (x * 2 ^ 52) y l)

-- ---- the halving: a number above whose half the root is, and the next one, above whose half it is not
pub nearest_between : (low high v : ℕ) → high ≡ low + 1 → low * low + low < v → v ≤ high * high + high → NearestWhole high v
nearest_between low high v e h k =
    let f : high * high ≡ (low + 1) * (low + 1) = ap (λ (x : ℕ). x * x) e in
    record { low = omega (arith, square_1 low); high = k }

-- what the test of a guess says
pub nearest_test : (n v : ℕ) → (leb v (n * n + n) && ltb (n * n) (v + n)) ≡ true → NearestWhole n v
nearest_test n v h =
    let t : T (leb v (n * n + n) && ltb (n * n) (v + n)) = subst T (sym h) tt in
    record { low = ltb→lt (n * n) (v + n) (and_r (leb v (n * n + n)) (ltb (n * n) (v + n)) t); high = leb→le v (n * n + n) (and_l (leb v (n * n + n)) (ltb (n * n) (v + n)) t) }
