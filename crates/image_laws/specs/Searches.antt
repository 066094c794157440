-- The answer of a search from C that returns 0 is read back as what was found and the row. Assumes nothing.
use Rattle.std.specs.Prelude.{ℕ, ◌≤◌, ◌<◌, ◌^◌, ◌≡◌, Bool, cond, ◌&&◌, ltb, Float}
use Rattle.std.proofs.Math.Path.{refl, ap}
use Rattle.std.proofs.Common.{sym, ◌∙◌, arith, lit≤}
use Rattle.std.proofs.Math.Bool.{true, false}
use mathlib.Core.List.{List}
use Rattle.std.proofs.Math.Dec.{eqb}
use Rattle.std.proofs.Math.ListN.{length}
use borrow.Author.Tests.{eq-eqb, eqb-true, ltb-true}
use Rattle.codec.specs.Words.{word_at}
use Rattle.image_rows.specs.Written.{put_ending}
use Rattle.row_search.specs.Search.{Outcome, by_refusal, looked_at, under, first_where, row_outcome, search_refusal, searched, full_read}
use Rattle.boundary.specs.Calls.{after_lengths}
use Rattle.boundary.specs.Search.{found_return, found_after, search_return, search_after}
use Rattle.image_laws.specs.Accepted.{after_lengths_lem}
use Rattle.image_laws.specs.Reports.{ending_read_back, rows_read_back}
use Rattle.image_layout.specs.Layout.{found_bytes, found_how, found_row}

-- what a row or none writes
record Written (r : Outcome) (count : ℕ) (a : List ℕ) : Type 0 where
  returned : found_return r ≡ 0
  answer : found_after r a ≡ put_ending a found_how r.found r.number
  how : r.found ≤ 2
  row : r.number ≤ count

row_written : (count j : ℕ) (a : List ℕ) → Written (row_outcome count j) count a
unfolding row_outcome found_return found_after put_ending
row_written count j a = go (ltb j count) refl
  where
    go : (b : Bool) → ltb j count ≡ b → Written (cond b (record { found = 1; number = j }) (record { found = 2; number = 0 })) count a
    go true e =
        let l : j < count = ltb-true _ _ e in
        record { returned = refl; answer = refl; how = lit≤ tt; row = omega arith }
    go false e = record { returned = refl; answer = refl; how = lit≤ tt; row = omega arith }

module _ (which : ℕ) (rows lowest : List Float) (count : ℕ) (v : Float) (a : List ℕ) where
  abbrev number : ℕ
  number = search_refusal which (length rows) (length lowest) count v

  abbrev row : Outcome
  row = row_outcome count (first_where (λ j. looked_at lowest v j && under rows v j) count)

  pub record SearchReadBack : Type 0 where
    pub how : word_at (search_after which rows lowest count v a) found_how ≡ (searched which rows lowest count v).found
    pub row : count < 2 ^ 64 → word_at (search_after which rows lowest count v a) found_row ≡ (searched which rows lowest count v).number

  -- a search that returns 0 is not refused
  not_refused : found_return (searched which rows lowest count v) ≡ 0 → number ≡ 0
  unfolding searched found_return
  not_refused h = go (eqb number 0) refl h
    where
      go : (b : Bool) → eqb number 0 ≡ b → found_return (cond b row (record { found = by_refusal; number = number })) ≡ 0 → number ≡ 0
      go true e k = eqb-true _ _ e
      go false e k = k

  pub search_read_back : search_return which rows lowest count v (length a) ≡ 0 → SearchReadBack
  unfolding search_return search_after searched
  search_read_back h =
      let c = after_lengths_lem (eqb (length a) found_bytes) (found_return (searched which rows lowest count v)) h in
      let n : length a ≡ found_bytes = eqb-true _ _ c.0 in
      let z = not_refused c.1 in
      let w = row_written count (first_where (λ j. looked_at lowest v j && under rows v j) count) a in
      let s : searched which rows lowest count v ≡ row = rw (eq-eqb _ _ z) in
      let e : search_after which rows lowest count v a ≡ put_ending a found_how row.found row.number = rw (c.0, eq-eqb _ _ z) w.answer in
      let k = w.how in
      let m = w.row in
      record {
        how = ap (λ (b : List ℕ). word_at b found_how) e ∙ ending_read_back a found_how row.found row.number (rw n (lit≤ tt)) (omega (arith, k)) ∙ ap (λ (r : Outcome). r.found) (sym s);
        row = λ q. ap (λ (b : List ℕ). word_at b found_row) e ∙ rows_read_back a found_how row.found row.number (rw n (lit≤ tt)) (omega (arith, m, q)) ∙ ap (λ (r : Outcome). r.number) (sym s);
      }

  -- where the search is the full read, it returns 0, and what the full read gives is read back
  pub record FullReadBack : Type 0 where
    pub returned : search_return which rows lowest count v (length a) ≡ 0
    pub how : word_at (search_after which rows lowest count v a) found_how ≡ (full_read rows count v).found
    pub row : count < 2 ^ 64 → word_at (search_after which rows lowest count v a) found_row ≡ (full_read rows count v).number

  full_returned : found_return (full_read rows count v) ≡ 0
  unfolding full_read
  full_returned = (row_written count (first_where (under rows v) count) a).returned

  pub full_read_back : length a ≡ found_bytes → searched which rows lowest count v ≡ full_read rows count v → FullReadBack
  unfolding search_return after_lengths
  full_read_back n e =
      let z : search_return which rows lowest count v (length a) ≡ 0 = rw (eq-eqb _ _ n, e) full_returned in
      let b = search_read_back z in
      record { returned = z; how = b.how ∙ ap (λ (r : Outcome). r.found) e; row = λ q. b.row q ∙ ap (λ (r : Outcome). r.number) e }
