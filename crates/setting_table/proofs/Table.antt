-- What the rows of the table say. Assumes nothing.
use Rattle.std.proofs.Common.{◌≡◌, ℕ, ◌+◌, ◌*◌, ◌<◌, Bool, T, eqb, List, [], ◌++◌, get_or, map, sym, eqb→eq}
use Rattle.std.specs.Float.{nan}
use lib.Ieee.{neg, of_bits}
use Rattle.std.proofs.lemmas.List.{get_or-map}
use Rattle.iterate.specs.Iterate.{all_below, all_at}
use Rattle.setting_table.specs.Names.{bytes_of, run_names, sheet_names}
use Rattle.setting_table.specs.Ranges.{low_ends, high_ends}
use Rattle.setting_table.specs.declared.rows.Row.{Row}
use Rattle.setting_table.specs.declared.rows.TheConstants.{ROWS}

pub low_at : (k : ℕ) (d : Row) → k < 21 → (get_or ROWS k d).low ≡ get_or low_ends k nan
unfolding low_ends neg of_bits
low_at k d h = sym (get_or-map (λ (r : Row). r.low) ROWS k d nan h)

pub high_at : (k : ℕ) (d : Row) → k < 21 → (get_or ROWS k d).high ≡ get_or high_ends k nan
unfolding high_ends
high_at k d h = sym (get_or-map (λ (r : Row). r.high) ROWS k d nan h)

abbrev letters : List (List ℕ)
letters = map (λ (r : Row). r.name) ROWS

abbrev same_letter : ℕ → ℕ → Bool
same_letter k j = eqb (get_or (get_or letters k []) j 0) (get_or (bytes_of run_names ++ bytes_of sheet_names) (k * 12 + j) 0)

same_letters : T (all_below 21 (λ k. all_below 12 (same_letter k)))
unfolding all_below bytes_of
same_letters = tt

pub letter_at : (k j : ℕ) (d : Row) → k < 21 → j < 12 → get_or (get_or ROWS k d).name j 0 ≡ get_or (bytes_of run_names ++ bytes_of sheet_names) (k * 12 + j) 0
letter_at k j d h l =
    rw (← get_or-map (λ (r : Row). r.name) ROWS k d [] h) (eqb→eq _ _ (all_at (same_letter k) 12 j l (all_at (λ k. all_below 12 (same_letter k)) 21 k h same_letters)))
