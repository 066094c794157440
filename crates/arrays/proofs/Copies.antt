-- Places that a slice's method writes are those written place by place. Assumes nothing.
use Rattle.std.proofs.Common.{ℕ, zero, suc, ◌+◌, ◌≤◌, ◌<◌, ◌≡◌, refl, ◌∙◌, List, [], ◌∷◌, ◌++◌, Float, length, take, drop, set, replicate, arith, add-one, append_assoc}
use Rattle.std.proofs.Math.Seq.{set-append_seam, take-length}
use Rattle.std.proofs.lemmas.List.{length-take-le, take_more, drop_more, length-replicate, get_or-replicate}
use Rattle.std.specs.Float.{nan}
use Rattle.iterate.specs.Iterate.{first_by, first_cong}
use Rattle.arrays.specs.Places.{at}

-- a place more
pub seam : (xs l : List Float) (n k : ℕ) (v : Float) → length xs ≡ n → k < length l → (xs ++ v ∷ []) ++ drop (k + 1) l ≡ set (xs ++ drop k l) n v
seam xs l n k v e h = rw (← e, drop_more l k nan h, set-append_seam xs (at l k) (drop (k + 1) l) v, append_assoc)

module _ (b x : List Float) where
  front : (k : ℕ) → k ≤ length b → k ≤ length x → take k b ++ drop k x ≡ first_by k (at b) x
  unfolding first_by
  front zero h l = refl
  front (suc k) h l =
      let step = seam (take k b) x k k (at b k) (length-take-le k b (omega arith)) (omega arith) in
      rw (← front k (omega arith) (omega arith), ← add-one k, take_more b k nan (omega arith)) step

  -- n places of x by those of b
  pub front_copied : (n : ℕ) → length b ≡ n → n ≤ length x → b ++ drop n x ≡ first_by n (at b) x
  front_copied n e l =
      let whole : take n b ≡ b = rw (← e) (take-length b) in
      rw whole at (front n (omega (arith, e)) l)

-- n places of l by one number
pub front_filled : (v : Float) (l : List Float) (n : ℕ) → n ≤ length l → replicate n v ++ drop n l ≡ first_by n (λ i. v) l
front_filled v l n h =
    front_copied (replicate n v) l n (length-replicate n v) h
    ∙ first_cong (at (replicate n v)) (λ i. v) l n (λ i k. get_or-replicate n i v nan k)
