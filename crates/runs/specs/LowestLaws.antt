-- A summary that is brought up to date with each row is the summary of the rows. Assumes nothing.
use Prim.Native.Nat.{ℕ, zero, suc, ◌+◌, ◌-◌, ◌*◌, ◌/◌, ◌%◌, ◌≤◌, ◌<◌}
use Rattle.std.specs.Prelude.{◌≡◌, Bool, List, T, leb, get_or, Float}
use Rattle.std.proofs.Math.Path.{refl, ap}
use Rattle.std.proofs.Common.{sym, ◌∙◌, leb→le, eq-eqb, ne_eqb, le-leb, leb-true}
use Rattle.std.proofs.Math.Bool.{true, false, cond}
use native.Mathlib.Omega.{arith}
use Rattle.std.proofs.Math.ListN.{length, set}
use Rattle.std.proofs.Math.Seq.{get_or-set_same, set-set}
use Rattle.std.specs.Float.Ieee.{nan, lt}
use Rattle.std.specs.Float.Ieee.Fits.{and_r}
use Rattle.iterate.specs.Iterate.{first_by, first_cong, first_length}
use Rattle.array_update.specs.ArrayUpdate.{places_by, places_inside, places_before}
use Rattle.runs.specs.Lowest.{group_count, voltage_at, lowest_of, last_of, group_lowest, summary, lowest_updated, Room, room_fits_of}

-- ---- a voltage taken up: it opens a group, it is lower than its group's, or neither
module _ (i : ℕ) (v : Float) (l : List Float) where
  pub updated_first : i % 64 ≡ 0 → set l (i / 64) v ≡ lowest_updated i v l
  unfolding lowest_updated
  updated_first e = rw (eq-eqb _ _ e)

  pub updated_lower : (i % 64 ≡ 0 → ⊥) → lt v (get_or l (i / 64) nan) ≡ true → set l (i / 64) v ≡ lowest_updated i v l
  unfolding lowest_updated
  updated_lower n e = rw (ne_eqb _ _ n, e)

  pub updated_kept : (i % 64 ≡ 0 → ⊥) → lt v (get_or l (i / 64) nan) ≡ false → l ≡ lowest_updated i v l
  unfolding lowest_updated
  updated_kept n e = rw (ne_eqb _ _ n, e)

-- ---- counting
last_full : (n g : ℕ) → g * 64 + 64 ≤ n → last_of n g ≡ 63
unfolding last_of
last_full n g h = rw (le-leb _ _ h)

last_here : (n g r : ℕ) → n ≡ g * 64 + suc r → r < 64 → last_of n g ≡ r
unfolding last_of
last_here n g r e h = by_test (leb (g * 64 + 64) n) refl
  where
    by_test : (b : Bool) → leb (g * 64 + 64) n ≡ b → cond b 63 (n - 1 - g * 64) ≡ r
    by_test true q =
        let k : g * 64 + 64 ≤ n = leb-true _ _ q in
        omega arith
    by_test false q = omega arith

groups_full : (g : ℕ) → group_count (g * 64) ≡ g
unfolding group_count
groups_full g = omega arith

groups_short : (g r : ℕ) → r < 64 → group_count (g * 64 + suc r) ≡ suc g
unfolding group_count
groups_short g r h = omega arith

-- ---- the lowest of like values
lowest_cong : (f f' : ℕ → Float) (n : ℕ) → ((j : ℕ) → j ≤ n → f' j ≡ f j) → lowest_of f' n ≡ lowest_of f n
unfolding lowest_of
lowest_cong f f' zero h = h 0 (omega arith)
lowest_cong f f' (suc n) h = rw (h (suc n) (omega arith), lowest_cong f f' n (λ j q. h j (omega arith)))

-- ---- one row more
module _ (out out' : List Float) (v : Float) where
  -- row i has the voltage v, the rows before it are as they were
  record Added (i : ℕ) : Type 0 where
    before : (j : ℕ) → j < i → voltage_at out' j ≡ voltage_at out j
    here : voltage_at out' i ≡ v

  module _ (l : List Float) (i g : ℕ) (a : Added i) (n : g < length l) where
    -- the groups before row i's are kept
    group_kept : (h : ℕ) → g * 64 ≤ i → h < g → group_lowest out' (i + 1) h ≡ group_lowest out i h
    group_kept h q k =
        let x : last_of (i + 1) h ≡ 63 = last_full (i + 1) h (omega arith) in
        let y : last_of i h ≡ 63 = last_full i h (omega arith) in
        rw (x, y) (lowest_cong (λ j. voltage_at out (h * 64 + j)) (λ j. voltage_at out' (h * 64 + j)) 63 (λ j z. a.before (h * 64 + j) (omega arith)))

    -- their places
    abbrev earlier : List Float
    earlier = first_by g (group_lowest out i) l

    earlier_kept : g * 64 ≤ i → first_by g (group_lowest out' (i + 1)) l ≡ earlier
    earlier_kept q = first_cong (group_lowest out' (i + 1)) (group_lowest out i) l g (λ h k. group_kept h q k)

    -- a group's first row
    opens : i ≡ g * 64 → lowest_updated i v (summary i out l) ≡ summary (i + 1) out' l
    unfolding lowest_updated summary first_by lowest_of
    opens e =
        let z : i % 64 ≡ 0 = omega arith in
        let d : i / 64 ≡ g = omega arith in
        let x : group_count i ≡ g = ap group_count e ∙ groups_full g in
        let y : group_count (i + 1) ≡ suc g = ap group_count (omega arith) ∙ groups_short g 0 (omega arith) in
        let w : last_of (i + 1) g ≡ 0 = last_here (i + 1) g 0 (omega arith) (omega arith) in
        let s : g * 64 + 0 ≡ i = omega arith in
        rw (eq-eqb _ _ z, d, x, y, w, s, a.here, earlier_kept (omega arith))

    -- a later row of a group
    module _ (q : ℕ) (e : i ≡ g * 64 + suc q) (r : suc q < 64) where
      -- the lowest of the group so far
      abbrev low : Float
      low = lowest_of (λ j. voltage_at out (g * 64 + j)) q

      summary_before : summary i out l ≡ set earlier g low
      unfolding summary first_by
      summary_before =
          let x : group_count i ≡ suc g = ap group_count e ∙ groups_short g q (omega arith) in
          let y : last_of i g ≡ q = last_here i g q e (omega arith) in
          rw (x, y)

      summary_after : summary (i + 1) out' l ≡ set earlier g (cond (lt v low) v low)
      unfolding summary first_by lowest_of
      summary_after =
          let x : group_count (i + 1) ≡ suc g = ap group_count (omega arith) ∙ groups_short g (suc q) r in
          let y : last_of (i + 1) g ≡ suc q = last_here (i + 1) g (suc q) (omega arith) r in
          let z : voltage_at out' (g * 64 + suc q) ≡ v = ap (voltage_at out') (sym e) ∙ a.here in
          let w = lowest_cong (λ j. voltage_at out (g * 64 + j)) (λ j. voltage_at out' (g * 64 + j)) q (λ j k. a.before (g * 64 + j) (omega arith)) in
          rw (x, y, z, w, earlier_kept (omega arith))

      goes_on : lowest_updated i v (summary i out l) ≡ summary (i + 1) out' l
      unfolding lowest_updated
      goes_on =
          let z : i % 64 ≡ 0 → ⊥ = λ k. omega arith in
          let d : i / 64 ≡ g = omega arith in
          let n' : g < length earlier = rw first_length n in
          rw (ne_eqb _ _ z, d, summary_before, summary_after, get_or-set_same earlier g low nan n') (either (lt v low))
        where
          either : (b : Bool) → cond b (set (set earlier g low) g v) (set earlier g low) ≡ set earlier g (cond b v low)
          either true = set-set earlier g _ v
          either false = refl

  summary_more : (l : List Float) (i : ℕ) → Added i → i / 64 < length l → lowest_updated i v (summary i out l) ≡ summary (i + 1) out' l
  summary_more l i a n = by_rest (i % 64) refl
    where
      by_rest : (r : ℕ) → i % 64 ≡ r → lowest_updated i v (summary i out l) ≡ summary (i + 1) out' l
      by_rest zero z = opens l i (i / 64) a n (omega arith)
      by_rest (suc q) z = goes_on l i (i / 64) a n q (omega arith) (omega arith)

-- the row put in the slice is such a row
row_added : (out row : List Float) (i : ℕ) → i * 8 + 8 ≤ length out → Added out (places_by (i * 8) 8 (λ j. get_or row j nan) out) (get_or row 0 nan) i
row_added out row i n =
    let z : i * 8 + 0 ≡ i * 8 = omega arith in
    record {
      before = λ j h. places_before (i * 8) (λ j. get_or row j nan) out 8 (j * 8) nan (omega arith);
      here = rw z at (places_inside (i * 8) (λ j. get_or row j nan) out 8 0 nan (omega arith) n);
    }

-- A ROW PUT AND ITS VOLTAGE TAKEN UP make of the summary of the rows before it the summary with it
pub summary_updated : (low₀ out low row out' low' : List Float) (i : ℕ) (v : Float) → low ≡ summary i out low₀ → v ≡ get_or row 0 nan
    → out' ≡ places_by (i * 8) 8 (λ j. get_or row j nan) out → low' ≡ lowest_updated i v low → i * 8 + 8 ≤ length out → i / 64 < length low₀ → low' ≡ summary (i + 1) out' low₀
summary_updated low₀ out low row out' low' i v e q p o n m =
    rw (o, e, p, q) (summary_more out (places_by (i * 8) 8 (λ j. get_or row j nan) out) (get_or row 0 nan) low₀ i (row_added out row i n) m)

-- the same summary by the state x, with i rows, and the slice that a run ends with
pub summary_ends : {S : Type 0} (count : S → ℕ) (x z : S) (i : ℕ) (out last low low₀ : List Float) → (x ≡ z) × (out ≡ last) → count x ≡ i → low ≡ summary i out low₀
    → low ≡ summary (count z) last low₀
summary_ends count x z i out last low low₀ e n h = rw (← e.0, n, ← e.1) h

-- no row, no place
pub summary_none : (rows l : List Float) → summary 0 rows l ≡ l
unfolding summary group_count first_by
summary_none rows l = refl

pub summary_length : (n : ℕ) (rows l : List Float) → length (summary n rows l) ≡ length l
unfolding summary
summary_length n rows l = first_length (group_lowest rows n) l (group_count n)

-- the groups of fewer rows have their places
pub group_within : (i total n : ℕ) → i < total → group_count total ≤ n → i / 64 < n
unfolding group_count
group_within i total n h k = omega arith

-- slices with room have a place for each group of all whole rows
pub room_groups : (m : Room) → T (room_fits_of m) → group_count (m.rows / 8) ≤ m.lowest
unfolding room_fits_of
room_groups m t = leb→le _ _ (and_r (leb 8 m.rows) (leb (group_count (m.rows / 8)) m.lowest) t)
