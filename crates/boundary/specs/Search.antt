-- The same for the search for the first row under a voltage: the number and the answer, which has two words, what was found and the row. Definitions only.
use Rattle.std.specs.Prelude.{ℕ, cond, List, eqb, length, Float}
use Rattle.codec.specs.Words.{put_word}
use Rattle.row_search.specs.Search.{Outcome, by_refusal, searched}
use Rattle.boundary.specs.Calls.{after_lengths}
use Rattle.image_layout.specs.Layout.{found_bytes, found_how, found_row}

-- a search's number, 0 where it is not refused
unfoldable pub found_return : Outcome → ℕ
found_return r = cond (eqb r.found by_refusal) r.number 0

-- 1 and the row, or 2 and 0
unfoldable pub found_after : Outcome → List ℕ → List ℕ
found_after r a = cond (eqb r.found by_refusal) a (put_word (put_word a found_how r.found) found_row r.number)

unfoldable pub search_return : ℕ → List Float → List Float → ℕ → Float → ℕ → ℕ
search_return which rows lowest count v answer = after_lengths (eqb answer found_bytes) (found_return (searched which rows lowest count v))

unfoldable pub search_after : ℕ → List Float → List Float → ℕ → Float → List ℕ → List ℕ
search_after which rows lowest count v a = cond (eqb (length a) found_bytes) (found_after (searched which rows lowest count v) a) a
