-- A loop over groups of 64 rows, of which some are passed over, finds the first row. Assumes nothing.
use Rattle.std.specs.Prelude.{ℕ, ◌+◌, ◌-◌, ◌*◌, ◌/◌, ◌≤◌, ◌<◌, ◌≡◌, refl, Bool, true, false, cond, ◌&&◌, leb, ltb, Float}
use Rattle.std.proofs.Common.{arith, leb→le, lit<, ltb-true, ltb-false}
use Rattle.std.specs.Float.Ieee.Fits.{and_l, and_r}
use Rattle.refusal.specs.Numbers.{neither_refused, passed}
use Rattle.runs.specs.Lowest.{group_count}
use Rattle.row_search.specs.Search.{first_where, row_outcome, by_row, by_none, search_refusal}
use Rattle.row_search.specs.FirstWhere.{First, found_row_lem, found_none}

-- ---- where a group ends: 64 rows after its start, or with the last row
unfoldable pub group_end : ℕ → ℕ → ℕ
group_end count start = cond (ltb (count - start) 64) count (start + 64)

pub record Ends (count start end : ℕ) : Type 0 where
  pub starts : start ≤ end
  pub within : end ≤ count
  pub near : end ≤ start + 64
  pub far : (j : ℕ) → j < count → j < start + 64 → j < end

pub group_ends : (count start end : ℕ) → start < count → end ≡ group_end count start → Ends count start end
unfolding group_end
group_ends count start end h e = rw e (by_test (ltb (count - start) 64) refl)
  where
    by_test : (b : Bool) → ltb (count - start) 64 ≡ b → Ends count start (cond b count (start + 64))
    by_test true e =
        let l : count - start < 64 = ltb-true _ _ e in
        record { starts = omega arith; within = omega arith; near = omega arith; far = λ j a b. a }
    by_test false e =
        let l : 64 ≤ count - start = ltb-false _ _ e in
        record { starts = omega arith; within = omega arith; near = omega arith; far = λ j a b. b }

-- ---- the loop: `looked` says which groups are not passed over, q is the test of a row
module _ (looked q : ℕ → Bool) (count : ℕ) where
  abbrev pub hit : ℕ → Bool
  hit j = looked (j / 64) && q j

  -- no row of the first g groups is a hit
  abbrev pub Clear : ℕ → Type 0
  Clear g = (j : ℕ) → j < count → j < g * 64 → hit j ≡ false

  pub clear_start : Clear 0
  clear_start j h l = absurd (omega arith)

  module _ (g : ℕ) (w : Clear g) where
    in_group : (j : ℕ) → j < count → j < (g + 1) * 64 → (g * 64 ≤ j → hit j ≡ false) → hit j ≡ false
    in_group j h l k = by_test (ltb j (g * 64)) refl
      where
        by_test : (b : Bool) → ltb j (g * 64) ≡ b → hit j ≡ false
        by_test true e = w j h (ltb-true _ _ e)
        by_test false e = k (ltb-false _ _ e)

    module _ (end r : ℕ) (d : Ends count (g * 64) end) (f : First (λ j. looked g && q j) (g * 64) end r) where
      before_hit : (j : ℕ) → g * 64 ≤ j → j < g * 64 + 64 → j < r → hit j ≡ false
      before_hit j k y z = let v : j / 64 ≡ g = omega arith in rw v (f.before j k z)

      -- a group without a hit
      pub clear_through : end ≤ r → Clear (g + 1)
      clear_through m j h l =
          in_group j h l (λ k.
          let y : j < g * 64 + 64 = omega arith in
          let z : j < end = d.far j h y in
          before_hit j k y (omega arith))

      -- a group with one
      pub clear_found : r < end → row_outcome count (first_where hit count) ≡ record { found = by_row; number = r }
      clear_found m =
          let x : g * 64 ≤ r = f.least in
          let y : end ≤ g * 64 + 64 = d.near in
          let z : end ≤ count = d.within in
          let v : r / 64 ≡ g = omega arith in
          found_row_lem hit count r (λ j k. in_group j (omega arith) (omega arith) (λ n. before_hit j n (omega arith) k)) (rw v (f.here m)) (omega arith)

    -- after the last group
    pub clear_end : count ≤ g * 64 → row_outcome count (first_where hit count) ≡ record { found = by_none; number = 0 }
    clear_end m = found_none hit count (λ j h. w j h (omega arith))

-- ---- the groups of so many rows
pub group_starts : (count g groups : ℕ) → groups ≡ group_count count → g < groups → g * 64 < count
unfolding group_count
group_starts count g groups e l = omega arith

pub groups_over : (count g groups : ℕ) → groups ≡ group_count count → groups ≤ g → count ≤ g * 64
unfolding group_count
groups_over count g groups e l = omega arith

-- a search that is not refused has eight places a row and one a group
pub search_room : (which places lowest count : ℕ) (v : Float) (number : ℕ) → number ≡ search_refusal which places lowest count v → number ≡ 0
    → (count * 8 ≤ places) × (group_count count ≤ lowest)
unfolding search_refusal
search_room which places lowest count v number e z =
    let t = passed _ _ (lit< tt) (neither_refused _ _ (rw e at z)).0 in
    let a : count ≤ places / 8 = leb→le _ _ (and_l (leb count (places / 8)) (leb (group_count count) lowest) t) in
    (omega arith, leb→le _ _ (and_r (leb count (places / 8)) (leb (group_count count) lowest) t))
