-- Two tests that both pass, taken apart. Assumes nothing.
use Rattle.std.proofs.Common.{◌≡◌, ℕ, ◌<◌, true, ◌&&◌, T, ltb, ltb→lt}
use lib.Ieee.Fits.{and_l, and_r}

pub both_less : (a b c d : ℕ) → (ltb a b && ltb c d) ≡ true → (a < b) × (c < d)
both_less a b c d h =
    let t : T (ltb a b && ltb c d) = rw h tt in
    (ltb→lt a b (and_l (ltb a b) (ltb c d) t), ltb→lt c d (and_r (ltb a b) (ltb c d) t))
