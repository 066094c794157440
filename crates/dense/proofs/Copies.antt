-- Copies made by `copy_from_slice` are those made place by place. Assumes nothing.
use Rattle.std.proofs.Common.{ℕ, zero, suc, ◌+◌, ◌-◌, ◌≤◌, ◌<◌, ◌≡◌, List, ◌++◌, Float, length, take, drop, set, arith, add-one, append_assoc}
use Rattle.std.proofs.lemmas.List.{get_or-drop, length-take-le, length-drop, length-append, append-nil, take-append-drop, take_more}
use Rattle.std.specs.Float.{nan}
use Rattle.arrays.specs.Places.{at}
use Rattle.arrays.proofs.Copies.{seam}
use Rattle.matrix_rows.specs.Loops.{turns_from, for_range}
use borrow.Rule.Slice.PartMut.{put_mid}

module _ (m a : List Float) (p q : ℕ) where
  turn : ℕ → List Float → List Float
  turn j y = set y (p + j) (at a (q + j))

  part : (k : ℕ) → p + k ≤ length m → q + k ≤ length a → (take p m ++ take k (drop q a)) ++ drop k (drop p m) ≡ turns_from 0 k turn m
  unfolding turns_from turn
  part zero h l = rw (append-nil (take p m)) (take-append-drop p m)
  part (suc k) h l =
      let s = drop q a in
      let long : k < length s = omega (arith, length-drop q a) in
      let side : length (take p m ++ take k s) ≡ p + k = omega (arith, length-append (take p m) (take k s), length-take-le p m (omega arith), length-take-le k s (omega (arith, length-drop q a))) in
      let step = seam (take p m ++ take k s) (drop p m) (p + k) k (at a (q + k)) side (omega (arith, length-drop p m)) in
      let same : 0 + k ≡ k = omega arith in
      rw (same, ← part k (omega arith) (omega arith), ← add-one k, take_more s k nan long, get_or-drop q a k nan, ← append_assoc) step

  -- k places of a, from q on, in those of m from p on
  pub part_copied : (k : ℕ) → p + k ≤ length m → q + k ≤ length a → put_mid p k m (take k (drop q a)) ≡ for_range 0 k (λ j y. set y (p + j) (at a (q + j))) m
  unfolding for_range turn
  part_copied k h l =
      let all : k - 0 ≡ k = omega arith in
      rw (all, ← append_assoc) (part k h l)
