-- Where the rows of a run stand in its slice, for any state that counts its rows. Assumes nothing.
use Prim.Native.Nat.{ℕ, zero, suc, ◌+◌, ◌*◌, ◌≤◌, ◌<◌}
use Rattle.std.specs.Prelude.{◌≡◌, Bool, true, false, eqb, Float}
use Rattle.std.proofs.Math.Path.{refl, ap, subst}
use Rattle.std.proofs.Common.{sym, ◌∙◌, arith, eq-or-lt_of_le, add-one, eqb-true}
use Rattle.std.proofs.Math.Logic.{⊎_elim}
use mathlib.Core.List.{List}
use Rattle.std.proofs.Math.ListN.{length, get_or}
use Rattle.std.specs.Float.{nan}
use Rattle.std.proofs.lemmas.Bool.{eqb-false}
use Rattle.array_update.specs.ArrayUpdate.{places_by, places_length, places_inside, places_before, places_after}
use Rattle.runs.specs.Rows.{run_after, rows_after}
use Rattle.runs.specs.Endings.{by_refusal}
use Rattle.runs.specs.Laws.{run_more, run_stays, rows_stay, rows_more, rows_refused}

module _ {S : Type 0} (over : S → ℕ) (turned : S → S) (row : S → List Float) (s : S) where
  abbrev after : ℕ → S
  after k = run_after over turned row k s

  abbrev rows : ℕ → List Float → List Float
  rows k l = rows_after over turned row k s l

  abbrev row_at : ℕ → ℕ → Float
  row_at k m = get_or (row (after (suc k))) m nan

  -- ---- the turn k: the run is over before it, or its step is refused, or it writes a row
  data Turn (k : ℕ) : Type 0 where
    idle : after (suc k) ≡ after k → ((l : List Float) → rows (suc k) l ≡ rows k l) → (over (after k) ≡ 0 → ⊥) → Turn k
    refused : after (suc k) ≡ turned (after k) → ((l : List Float) → rows (suc k) l ≡ rows k l) → over (after k) ≡ 0 → over (after (suc k)) ≡ by_refusal → Turn k
    written : after (suc k) ≡ turned (after k) → ((l : List Float) → rows (suc k) l ≡ places_by (k * 8) 8 (row_at k) (rows k l)) → over (after k) ≡ 0
        → (over (after (suc k)) ≡ by_refusal → ⊥) → Turn k

  turn : (k : ℕ) → Turn k
  turn k = on (eqb (over (after k)) 0) refl
    where
      row_or_none : (b : Bool) → over (after k) ≡ 0 → eqb (over (after (k + 1))) by_refusal ≡ b → Turn k
      row_or_none true h f =
          let g = eqb-true _ _ f in
          Turn.refused (rw (add-one k) at (run_more over turned row s k h)) (λ l. rw (add-one k) at (rows_refused over turned row s k l h g)) h (rw (add-one k) at g)
      row_or_none false h f =
          let g = eqb-false _ _ f in
          Turn.written (rw (add-one k) at (run_more over turned row s k h)) (λ l. rw (add-one k) at (rows_more over turned row s k l h g)) h (rw (add-one k) at g)

      on : (b : Bool) → eqb (over (after k)) 0 ≡ b → Turn k
      on true e = row_or_none (eqb (over (after (k + 1))) by_refusal) (eqb-true _ _ e) refl
      on false e =
          let n = eqb-false _ _ e in
          Turn.idle (rw (add-one k) at (run_stays over turned row s k 1 n)) (λ l. rw (add-one k) at (rows_stay over turned row s k 1 l n)) n

  pub rows_length : (k : ℕ) (l : List Float) → length (rows k l) ≡ length l
  unfolding rows_after
  rows_length zero l = refl
  rows_length (suc k) l = go (turn k) (rows_length k l)
    where
      go : Turn k → length (rows k l) ≡ length l → length (rows (suc k) l) ≡ length l
      go (Turn.idle a b n) h = ap length (b l) ∙ h
      go (Turn.refused a b o g) h = ap length (b l) ∙ h
      go (Turn.written a b o g) h = ap length (b l) ∙ places_length (k * 8) (row_at k) (rows k l) 8 ∙ h

  -- ---- a count of the run's rows: none at the start, one more after a turn that writes a row, the same after one that is refused
  pub record CountsRows (count : S → ℕ) : Type 0 where
    pub start : count s ≡ 0
    pub written : (k : ℕ) → over (after k) ≡ 0 → (over (turned (after k)) ≡ by_refusal → ⊥) → count (turned (after k)) ≡ count (after k) + 1
    pub refused : (k : ℕ) → over (after k) ≡ 0 → over (turned (after k)) ≡ by_refusal → count (turned (after k)) ≡ count (after k)

  module _ (count : S → ℕ) (c : CountsRows count) where
    written_count : (k : ℕ) → after (suc k) ≡ turned (after k) → over (after k) ≡ 0 → (over (after (suc k)) ≡ by_refusal → ⊥) → count (after (suc k)) ≡ suc (count (after k))
    written_count k a o g = ap count a ∙ c.written k o (λ e. g (ap over a ∙ e)) ∙ add-one (count (after k))

    refused_count : (k : ℕ) → after (suc k) ≡ turned (after k) → over (after k) ≡ 0 → over (after (suc k)) ≡ by_refusal → count (after (suc k)) ≡ count (after k)
    refused_count k a o g = ap count a ∙ c.refused k o (ap over (sym a) ∙ g)

    -- while the run goes on, each turn has written its row
    pub count_on : (k : ℕ) → over (after k) ≡ 0 → count (after k) ≡ k
    unfolding run_after
    count_on zero h = c.start
    count_on (suc k) h = go (turn k) (count_on k)
      where
        go : Turn k → (over (after k) ≡ 0 → count (after k) ≡ k) → count (after (suc k)) ≡ suc k
        go (Turn.idle a b n) ih = absurd (n (ap over (sym a) ∙ h))
        go (Turn.refused a b o g) ih = absurd (omega (arith, h, g))
        go (Turn.written a b o g) ih = written_count k a o g ∙ ap suc (ih o)

    -- no more rows than turns
    pub count_most : (k : ℕ) → count (after k) ≤ k
    unfolding run_after
    count_most zero = rw c.start (omega arith)
    count_most (suc k) = go (turn k) (count_most k)
      where
        go : Turn k → count (after k) ≤ k → count (after (suc k)) ≤ suc k
        go (Turn.idle a b n) ih = omega (arith, ap count a, ih)
        go (Turn.refused a b o g) ih = omega (arith, refused_count k a o g, ih)
        go (Turn.written a b o g) ih = omega (arith, written_count k a o g, ih)

    -- the run was going on before each row, and its step was not refused
    abbrev Made : ℕ → Type 0
    Made j = (over (after j) ≡ 0) × (over (after (suc j)) ≡ by_refusal → ⊥)

    pub row_made : (k j : ℕ) → j < count (after k) → Made j
    unfolding run_after
    row_made zero j m = absurd (omega (arith, c.start, m))
    row_made (suc k) j m = go (turn k) (row_made k j)
      where
        go : Turn k → (j < count (after k) → Made j) → Made j
        go (Turn.idle a b n) ih = ih (omega (arith, ap count a, m))
        go (Turn.refused a b o g) ih = ih (omega (arith, refused_count k a o g, m))
        go (Turn.written a b o g) ih =
            ⊎_elim (λ (e : j ≡ k). subst Made (sym e) (o, g)) (λ (l : j < k). ih (omega (arith, count_on k o, l)))
            (eq-or-lt_of_le (omega (arith, written_count k a o g, count_on k o, m)))

    pub row_count : (k j : ℕ) → j < count (after k) → count (after (suc j)) ≡ suc j
    row_count k j m = go (turn j) (row_made k j m)
      where
        go : Turn j → Made j → count (after (suc j)) ≡ suc j
        go (Turn.idle a b n) h = absurd (n h.0)
        go (Turn.refused a b o g) h = absurd (h.1 g)
        go (Turn.written a b o g) h = written_count j a o g ∙ ap suc (count_on j o)

    -- a run that ends refused had room for a row more
    pub refused_room : (over s ≡ by_refusal → ⊥) → (k : ℕ) → over (after k) ≡ by_refusal → count (after k) < k
    unfolding run_after
    refused_room n zero h = absurd (n h)
    refused_room n (suc k) h = go (turn k) (refused_room n k)
      where
        go : Turn k → (over (after k) ≡ by_refusal → count (after k) < k) → count (after (suc k)) < suc k
        go (Turn.idle a b o) ih = omega (arith, ap count a, ih (ap over (sym a) ∙ h))
        go (Turn.refused a b o g) ih = omega (arith, refused_count k a o g, count_on k o)
        go (Turn.written a b o g) ih = absurd (g h)

    -- EACH ROW STANDS at its eight places
    pub row_stands : (k j m : ℕ) (l : List Float) (d : Float) → j < count (after k) → m < 8 → k * 8 ≤ length l
        → get_or (rows k l) (j * 8 + m) d ≡ get_or (row (after (suc j))) m nan
    unfolding run_after
    row_stands zero j m l d p q n = absurd (omega (arith, c.start, p))
    row_stands (suc k) j m l d p q n = go (turn k) (λ h. row_stands k j m l d h q (omega arith))
      where
        go : Turn k → (j < count (after k) → get_or (rows k l) (j * 8 + m) d ≡ row_at j m) → get_or (rows (suc k) l) (j * 8 + m) d ≡ row_at j m
        go (Turn.idle a b o) ih = ap (λ (x : List Float). get_or x (j * 8 + m) d) (b l) ∙ ih (omega (arith, ap count a, p))
        go (Turn.refused a b o g) ih = ap (λ (x : List Float). get_or x (j * 8 + m) d) (b l) ∙ ih (omega (arith, refused_count k a o g, p))
        go (Turn.written a b o g) ih =
            ap (λ (x : List Float). get_or x (j * 8 + m) d) (b l) ∙ ⊎_elim
            (λ (z : j ≡ k). rw z (places_inside (k * 8) (row_at k) (rows k l) 8 m d q (omega (arith, rows_length k l, n))))
            (λ (z : j < k). places_before (k * 8) (row_at k) (rows k l) 8 (j * 8 + m) d (omega (arith, z, q)) ∙ ih (omega (arith, count_on k o, z)))
            (eq-or-lt_of_le (omega (arith, written_count k a o g, count_on k o, p)))

    -- and the places after the last row are as they were
    pub rows_kept : (k i : ℕ) (l : List Float) (d : Float) → count (after k) * 8 ≤ i → get_or (rows k l) i d ≡ get_or l i d
    unfolding run_after rows_after
    rows_kept zero i l d p = refl
    rows_kept (suc k) i l d p = go (turn k) (rows_kept k i l d)
      where
        go : Turn k → (count (after k) * 8 ≤ i → get_or (rows k l) i d ≡ get_or l i d) → get_or (rows (suc k) l) i d ≡ get_or l i d
        go (Turn.idle a b o) ih = ap (λ (x : List Float). get_or x i d) (b l) ∙ ih (omega (arith, ap count a, p))
        go (Turn.refused a b o g) ih = ap (λ (x : List Float). get_or x i d) (b l) ∙ ih (omega (arith, refused_count k a o g, p))
        go (Turn.written a b o g) ih =
            let e = count_on k o in
            let w = written_count k a o g in
            ap (λ (x : List Float). get_or x i d) (b l) ∙ places_after (k * 8) (row_at k) (rows k l) 8 i d (omega (arith, e, w, p)) ∙ ih (omega (arith, e, w, p))
