-- Eight bytes of a string as the standard library reads and writes them. Assumes nothing.
use Rattle.std.proofs.Common.{◌≡◌, ℕ, zero, suc, ◌+◌, ◌-◌, ◌/◌, ◌%◌, ◌≤◌, List, [], ◌∷◌, length, get_or, take, drop, set, append_assoc, refl, ◌∙◌, arith, add-one}
use Rattle.std.proofs.Math.Nat.{div-div-eq-div-mul, add-zero, zero-add, add_assoc}
use Rattle.std.proofs.Math.Seq.{sets}
use Rattle.std.proofs.lemmas.List.{get_or-take, get_or-drop}
use Rattle.std.proofs.lemmas.List.Edits.{sets-eq}
use Rattle.std.specs.Int.{w64, to_le_bytes, from_le_bytes}
use borrow.Rule.Slice.PartMut.{put_mid, Post-is}
use Rattle.codec.specs.Words.{bytes_at, put_bytes}

-- two strings with the same bytes, from j and from a on
same_bytes : (k : ℕ) (b s : List ℕ) (j a : ℕ) → ((i : ℕ) → i ≤ k → get_or b (j + i) 0 ≡ get_or s (a + i) 0) → bytes_at k b j ≡ bytes_at k s a
unfolding bytes_at
same_bytes zero b s j a h = simp add-zero at (h 0 (omega arith))
same_bytes (suc k) b s j a h =
    let here : get_or b j 0 ≡ get_or s a 0 = simp add-zero at (h 0 (omega arith)) in
    rw (here, same_bytes k b s (j + 1) (a + 1) (λ i q. simp add_assoc (h (1 + i) (omega arith))))

-- what the library reads from the part of s from a on
pub read_is : (s b : List ℕ) (a k n : ℕ) → k ≡ 8 → b ≡ take k (drop a s) → n ≡ from_le_bytes w64 b → n ≡ bytes_at 7 s a
unfolding bytes_at
read_is s b a k n e p q =
    let at : bytes_at 7 b 0 ≡ bytes_at 7 s a = same_bytes 7 b s 0 a (λ i h. rw (zero-add i, p, e, get_or-take 8 (drop a s) i 0 (omega arith), get_or-drop a s i 0)) in
    omega (arith, at)

abbrev low_bytes : ℕ → ℕ → List ℕ
low_bytes zero n = n % 256 ∷ []
low_bytes (suc k) n = n % 256 ∷ low_bytes k (n / 256)

put_is : (k : ℕ) (s : List ℕ) (a n : ℕ) → put_bytes k s a n ≡ sets s a (low_bytes k n)
unfolding put_bytes
put_is zero s a n = refl
put_is (suc k) s a n = rw add-one (put_is k (set s a (n % 256)) (suc a) (n / 256))

-- what the library writes over the part of s from a to e
pub write_is : (s ys : List ℕ) (a e n : ℕ) → e ≡ a + 8 → e ≤ length s → ys ≡ to_le_bytes w64 n → put_mid a (e - a) s ys ≡ put_bytes 7 s a n
write_is s ys a e n p h q =
    let low : to_le_bytes w64 n ≡ low_bytes 7 n = simp div-div-eq-div-mul in
    rw (Post-is a e s (omega arith), q ∙ low, put_is 7 s a n, sets-eq (low_bytes 7 n) s a (omega arith), p, append_assoc (take a s) (low_bytes 7 n) (drop (a + 8) s))
