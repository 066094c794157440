-- The first place at which a test holds, and a loop that looks for it. Assumes nothing.
use Prim.Native.Nat.{ℕ, zero, suc, ◌+◌, ◌≤◌, ◌<◌}
use Rattle.std.specs.Prelude.{◌≡◌, Bool, ◌&&◌, Option, Some, None}
use Rattle.std.proofs.Math.Path.{refl}
use Rattle.std.proofs.Common.{sym, not-suc-le-zero, eq-or-lt_of_le, le_of_suc-le-suc}
use Rattle.std.proofs.Math.Bool.{true, false}
use Rattle.std.proofs.Math.Logic.{⊎_elim}
use native.Mathlib.Omega.{arith}
use borrow.Author.Tests.{eq-eqb, ne_eqb, lt-ltb, le-ltb}
use Rattle.row_search.specs.Search.{first_where, row_outcome, by_row, by_none}

module _ (p : ℕ → Bool) where
  where_none : (n : ℕ) → ((j : ℕ) → j < n → p j ≡ false) → first_where p n ≡ n
  unfolding first_where
  where_none zero h = refl
  where_none (suc k) h = rw (eq-eqb _ _ (where_none k (λ j q. h j (omega arith))), h k (omega arith))

  where_here : (n r : ℕ) → ((j : ℕ) → j < r → p j ≡ false) → p r ≡ true → r < n → first_where p n ≡ r
  unfolding first_where
  where_here zero r h e l = absurd (not-suc-le-zero l)
  where_here (suc k) r h e l =
      ⊎_elim
      (λ (q : r ≡ k).
      let h' : (j : ℕ) → j < k → p j ≡ false = rw q at h in
      let e' : p k ≡ true = rw q at e in
      rw (eq-eqb _ _ (where_none k h'), e') (sym q))
      (λ (q : r < k). rw (where_here k r h e q, ne_eqb r k (λ z. omega arith)))
      (eq-or-lt_of_le (le_of_suc-le-suc l))

  -- the answer by the places before it and its own, and by all places where there is none
  pub found_row_lem : (n r : ℕ) → ((j : ℕ) → j < r → p j ≡ false) → p r ≡ true → r < n → row_outcome n (first_where p n) ≡ record { found = by_row; number = r }
  unfolding row_outcome
  found_row_lem n r h e l = rw (where_here n r h e l, lt-ltb _ _ l)

  pub found_none : (n : ℕ) → ((j : ℕ) → j < n → p j ≡ false) → row_outcome n (first_where p n) ≡ record { found = by_none; number = 0 }
  unfolding row_outcome
  found_none n h =
      let z : n ≤ n = omega arith in
      rw (where_none n h, le-ltb _ _ z)

-- by tests that agree
pub where_cong : (p q : ℕ → Bool) (n : ℕ) → ((j : ℕ) → j < n → p j ≡ q j) → first_where p n ≡ first_where q n
unfolding first_where
where_cong p q zero h = refl
where_cong p q (suc k) h = rw (where_cong p q k (λ j z. h j (omega arith)), h k (omega arith))

-- ---- r is the first of the places from `start` to `end` at which p holds, `end` where there is none
pub record First (p : ℕ → Bool) (start end r : ℕ) : Type 0 where
  pub least : start ≤ r
  pub most : r ≤ end
  pub before : (j : ℕ) → start ≤ j → j < r → p j ≡ false
  pub here : r < end → p r ≡ true

-- what a search of the places from `start` to `end` answers: the first, or none
abbrev pub FirstIn : (ℕ → Bool) → ℕ → ℕ → Option ℕ → Type 0
FirstIn p start end (Some r) = First p start end r × (r < end)
FirstIn p start end None = First p start end end

-- a loop that looks for it: p holds at none of the places before j
pub record Passed (p : ℕ → Bool) (start end j : ℕ) : Type 0 where
  pub least : start ≤ j
  pub most : j ≤ end
  pub before : (i : ℕ) → start ≤ i → i < j → p i ≡ false

pub passed_start : (p : ℕ → Bool) (start end : ℕ) → start ≤ end → Passed p start end start
passed_start p start end h = record { least = omega arith; most = h; before = λ i a b. absurd (omega arith) }

module _ (p : ℕ → Bool) (start end j : ℕ) (w : Passed p start end j) where
  pub passed_more : j < end → p j ≡ false → Passed p start end (j + 1)
  passed_more l e =
      let a : start ≤ j = w.least in
      record {
        least = omega arith;
        most = omega arith;
        before = λ i x y. ⊎_elim (λ (q : i ≡ j). rw q e) (λ (q : i < j). w.before i x q) (eq-or-lt_of_le (let z : i ≤ j = omega arith in z));
      }

  pub passed_here : j < end → p j ≡ true → First p start end j
  passed_here l e = record { least = w.least; most = w.most; before = w.before; here = λ z. e }

  pub passed_all : end ≤ j → First p start end end
  passed_all l =
      let e : j ≡ end = let m : j ≤ end = w.most in omega arith in
      let a : start ≤ j = w.least in
      record { least = omega arith; most = omega arith; before = λ i x y. w.before i x (omega arith); here = λ z. absurd (omega arith) }

-- ---- where another test, b, lets nothing through, and where it lets all through
pub first_over : (b : Bool) (q : ℕ → Bool) (start end : ℕ) → b ≡ false → start ≤ end → First (λ j. b && q j) start end end
first_over b q start end e h = rw e (record { least = h; most = omega arith; before = λ j x y. refl; here = λ z. absurd (omega arith) })

pub first_looked : (b : Bool) (q : ℕ → Bool) (start end r : ℕ) → b ≡ true → First q start end r → First (λ j. b && q j) start end r
first_looked b q start end r e f = rw e f

pub first_in_looked : (b : Bool) (q : ℕ → Bool) (start end : ℕ) (r : Option ℕ) → b ≡ true → FirstIn q start end r → FirstIn (λ j. b && q j) start end r
first_in_looked b q start end r e f = rw e f
