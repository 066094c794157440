-- Where voltages are finite, each place of the summary is the lowest of its group: a row has it, no row is under it, and of equals that row is the first. Assumes nothing.
use Rattle.std.specs.Prelude.{ℕ, zero, suc, ◌+◌, ◌-◌, ◌*◌, ◌/◌, ◌≤◌, ◌<◌, ◌≡◌, refl, Bool, true, false, cond, List, T, leb, length, get_or, Float}
use Rattle.std.proofs.Common.{sym, subst, ⊎_elim, inl, inr, arith, eq-or-lt_of_le, le_of_suc-le-suc, leb-true, leb-false}
use Rattle.std.specs.Float.Ieee.{nan, lt, le}
use Rattle.fraction.proofs.Field.{≤F-trans, le_or_lt, le_of_lt}
use Rattle.fraction.proofs.Order.{≤F-refl, lt_le_trans}
use Rattle.binary64.specs.Value.{val}
use Rattle.binary64.proofs.Value.{le_val, val_le, lt_val, val_lt}
use Rattle.refusal.specs.Ranges.{finite}
use Rattle.iterate.specs.Iterate.{first_below, first_above}
use Rattle.runs.specs.Lowest.{group_count, voltage_at, lowest_of, last_of, group_lowest, summary}

-- ---- the lowest of f's values at 0 to n
record LowestAt (f : ℕ → Float) (n : ℕ) (low : Float) : Type 0 where
  place : ℕ
  within : place ≤ n
  holds : low ≡ f place
  least : (j : ℕ) → j ≤ n → T (le low (f j))
  first : (j : ℕ) → j < place → T (lt low (f j))

le_self : (x : Float) → T (finite x) → T (le x x)
le_self x p = val_le x x p p ≤F-refl

module _ (f : ℕ → Float) (n : ℕ) (fine : (j : ℕ) → j ≤ suc n → T (finite (f j))) (low : Float) (w : LowestAt f n low) where
  low_fine : T (finite low)
  low_fine =
      let h : w.place ≤ n = w.within in
      rw w.holds (fine w.place (omega arith))

  abbrev next : Float
  next = f (suc n)

  next_fine : T (finite next)
  next_fine = fine (suc n) (omega arith)

  -- a value under it takes its place
  lower : lt next low ≡ true → LowestAt f (suc n) next
  lower e =
      let h = lt_val next low next_fine low_fine (subst T (sym e) tt) in
      record {
        place = suc n;
        within = omega arith;
        holds = refl;
        least = λ j q.
            ⊎_elim (λ (z : j ≡ suc n). rw z (le_self next next_fine))
            (λ (z : j < suc n). val_le next (f j) next_fine (fine j q) (≤F-trans (le_of_lt h) (le_val low (f j) low_fine (fine j q) (w.least j (le_of_suc-le-suc z)))))
            (eq-or-lt_of_le q);
        first = λ j q.
            let p = fine j (omega arith) in
            val_lt next (f j) next_fine p (lt_le_trans h (le_val low (f j) low_fine p (w.least j (le_of_suc-le-suc q))));
      }

  -- any other leaves it
  not_under : lt next low ≡ false → T (le low next)
  not_under e =
      elim (le_or_lt (val low) (val next)) [ inl h ↦ val_le low next low_fine next_fine h | inr h ↦ absurd (subst T e (val_lt next low next_fine low_fine h)) ]

  kept : lt next low ≡ false → LowestAt f (suc n) low
  kept e =
      let h : w.place ≤ n = w.within in
      record {
        place = w.place;
        within = omega arith;
        holds = w.holds;
        least = λ j q. ⊎_elim (λ (z : j ≡ suc n). rw z (not_under e)) (λ (z : j < suc n). w.least j (le_of_suc-le-suc z)) (eq-or-lt_of_le q);
        first = w.first;
      }

  lowest_more : (b : Bool) → lt next low ≡ b → LowestAt f (suc n) (cond b next low)
  lowest_more true e = lower e
  lowest_more false e = kept e

lowest_at : (f : ℕ → Float) (n : ℕ) → ((j : ℕ) → j ≤ n → T (finite (f j))) → LowestAt f n (lowest_of f n)
unfolding lowest_of
lowest_at f zero fine =
    record {
      place = 0;
      within = omega arith;
      holds = refl;
      least = λ j q. let e : j ≡ 0 = omega arith in rw e (le_self (f 0) (fine 0 (omega arith)));
      first = λ j q. absurd (omega arith);
    }
lowest_at f (suc n) fine = lowest_more f n fine (lowest_of f n) (lowest_at f n (λ j q. fine j (omega arith))) (lt (f (suc n)) (lowest_of f n)) refl

-- ---- a group among n rows: its last row, counted from its first
record Last (n g last : ℕ) : Type 0 where
  short : last ≤ 63
  within : g * 64 + last < n
  reaches : (j : ℕ) → j < n → j / 64 ≡ g → j - g * 64 ≤ last

last_row : (n g : ℕ) → g * 64 < n → Last n g (last_of n g)
unfolding last_of
last_row n g h = by_test (leb (g * 64 + 64) n) refl
  where
    by_test : (b : Bool) → leb (g * 64 + 64) n ≡ b → Last n g (cond b 63 (n - 1 - g * 64))
    by_test true e =
        let l : g * 64 + 64 ≤ n = leb-true _ _ e in
        record { short = omega arith; within = omega arith; reaches = λ j a q. omega arith }
    by_test false e =
        let l : n < g * 64 + 64 = leb-false _ _ e in
        record { short = omega arith; within = omega arith; reaches = λ j a q. omega arith }

-- the lowest voltage of group g among n rows, and the first row that has it
pub record GroupLowest (n : ℕ) (rows : List Float) (g : ℕ) (low : Float) : Type 0 where
  pub row : ℕ
  pub written : row < n
  pub grouped : row / 64 ≡ g
  pub holds : low ≡ voltage_at rows row
  pub least : (j : ℕ) → j < n → j / 64 ≡ g → T (le low (voltage_at rows j))
  pub first : (j : ℕ) → j < row → j / 64 ≡ g → T (lt low (voltage_at rows j))

module _ (n : ℕ) (rows : List Float) (fine : (j : ℕ) → j < n → T (finite (voltage_at rows j))) where
  group_lowest_lem : (g : ℕ) → g * 64 < n → GroupLowest n rows g (group_lowest rows n g)
  group_lowest_lem g h =
      let f : ℕ → Float = λ i. voltage_at rows (g * 64 + i) in
      let low = group_lowest rows n g in
      let d = last_row n g h in
      let s : last_of n g ≤ 63 = d.short in
      let t : g * 64 + last_of n g < n = d.within in
      let w = lowest_at f (last_of n g) (λ i q. fine (g * 64 + i) (omega arith)) in
      let p : w.place ≤ last_of n g = w.within in
      record {
        row = g * 64 + w.place;
        written = omega arith;
        grouped = omega arith;
        holds = w.holds;
        least = λ j a q.
            let e : g * 64 + (j - g * 64) ≡ j = omega arith in
            rw e at (w.least (j - g * 64) (d.reaches j a q));
        first = λ j a q.
            let e : g * 64 + (j - g * 64) ≡ j = omega arith in
            rw e at (w.first (j - g * 64) (omega arith));
      }

  -- EACH PLACE OF THE SUMMARY that has a group is the group's lowest voltage
  pub summary_lowest : (l : List Float) → group_count n ≤ length l → (g : ℕ) → g < group_count n → GroupLowest n rows g (get_or (summary n rows l) g nan)
  unfolding summary group_count
  summary_lowest l room g h = rw (first_below (group_lowest rows n) l (group_count n) g nan h room) (group_lowest_lem g (omega arith))

-- any other is as it was
pub summary_kept : (n : ℕ) (rows l : List Float) (g : ℕ) (d : Float) → group_count n ≤ g → get_or (summary n rows l) g d ≡ get_or l g d
unfolding summary
summary_kept n rows l g d h = first_above (group_lowest rows n) l (group_count n) g d h
