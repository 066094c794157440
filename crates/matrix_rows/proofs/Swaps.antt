-- The exchange of two places as `swap` makes it. Assumes nothing.
use Rattle.std.proofs.Common.{ℕ, ◌<◌, ◌≡◌, sym, List, Float, length}
use Rattle.std.specs.List.{swap}
use Rattle.std.proofs.lemmas.List.Edits.{swap_is}
use Rattle.std.specs.Float.{nan}
use Rattle.matrix_rows.specs.Rows.{swapped}

pub swap_made : (l : List Float) (p q : ℕ) → p < length l → q < length l → swap l p q ≡ swapped p q l
unfolding swapped
swap_made l p q h k = sym (swap_is l p q nan h k)
