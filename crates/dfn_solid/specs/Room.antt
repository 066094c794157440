-- At most 16 particles of at most 32 nodes have room in 512 places. Assumes nothing.
use Rattle.std.specs.Prelude.{ℕ, suc, ◌+◌, ◌*◌, ◌<◌, ◌≤◌}
use Rattle.std.proofs.Common.{mul-le-mul, suc-mul}

pub room : (m n : ℕ) → m ≤ 16 → n ≤ 32 → m * n ≤ 512
room m n h l = mul-le-mul h l

pub room_at : (i n : ℕ) → i < 16 → n ≤ 32 → i * n + n ≤ 512
room_at i n h l = let r : suc i * n ≤ 512 = room (suc i) n h l in rw (suc-mul i n) at r
