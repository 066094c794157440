-- Ten numbers from a place on. Assumes nothing.
use Rattle.std.proofs.Common.{◌≡◌, ℕ, suc, ◌+◌, ◌<◌, ◌≤◌, List, ◌∷◌, length, take, drop, get_or, Float, arith, drop-cons}
use Rattle.std.specs.Float.{nan}
use Rattle.cell_file.specs.Records.{ten_at}

step : (n : ℕ) (v : List Float) (i j : ℕ) → i < length v → j ≡ suc i → take (suc n) (drop i v) ≡ get_or v i nan ∷ take n (drop j v)
step n v i j h e = rw (e, drop-cons v i nan h)

pub tens_taken : (v : List Float) (i : ℕ) → i + 10 ≤ length v → take 10 (drop i v) ≡ ten_at v i
unfolding ten_at
tens_taken v i h =
    rw (step 9 v i (i + 1) (omega arith) (omega arith), step 8 v (i + 1) (i + 2) (omega arith) (omega arith), step 7 v (i + 2) (i + 3) (omega arith) (omega arith), step 6 v (i + 3) (i + 4) (omega arith) (omega arith), step 5 v (i + 4) (i + 5) (omega arith) (omega arith), step 4 v (i + 5) (i + 6) (omega arith) (omega arith), step 3 v (i + 6) (i + 7) (omega arith) (omega arith), step 2 v (i + 7) (i + 8) (omega arith) (omega arith), step 1 v (i + 8) (i + 9) (omega arith) (omega arith), step 0 v (i + 9) (i + 10) (omega arith) (omega arith))
