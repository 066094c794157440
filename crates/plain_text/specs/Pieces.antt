-- Laws on pieces of a text. Assumes nothing.
use Rattle.std.specs.Prelude.{ℕ, zero, suc, ◌-◌, ◌≤◌, ◌≡◌, refl, Bool, true, false, cond, ◌&&◌, List, [], ◌∷◌, leb, ltb, eqb, length, take, drop, get_or}
use Rattle.std.proofs.Math.Bool.{and-eq-true_iff}
use Rattle.std.proofs.Common.{◌∙◌, ap, arith, zero-lt-suc, leb-true, lt-ltb, length-drop, take_all}
use Rattle.std.proofs.Math.Dec.{eqb-suc-zero, eqb-zero-suc, eqb-suc-suc, leb-suc-suc, leb-suc-zero}
use borrow.Author.Tests.{le-leb}
use Rattle.std.specs.Cmp.Lexicographic.{pointwise}
use Rattle.iterate.specs.Iterate.{all_below}
use Rattle.plain_text.specs.Text.{index_of, headed, lines_of, starts_with, is_text}

pub starts_long : (s p : List ℕ) → starts_with s p ≡ true → length p ≤ length s
unfolding starts_with
starts_long s p h = leb-true (length p) (length s) ((and-eq-true_iff (leb (length p) (length s)) (all_below (length p) (λ j. eqb (get_or s j 0) (get_or p j 0)))).0 h).0

-- a slice up to the end is all that is left
pub rest_is : (n : ℕ) (s : List ℕ) → take (length s - n) (drop n s) ≡ drop n s
rest_is n s = take_all (length s - n) (drop n s) (rw (length-drop n s) (omega arith))

-- what stands behind the first line
unfoldable pub lines_behind : List ℕ → List (List ℕ)
lines_behind s = cond (ltb (index_of 10 s) (length s)) (lines_of (drop (suc (index_of 10 s)) s)) []

-- the first line, and those behind it
pub lines_first : (s : List ℕ) → lines_of s ≡ take (index_of 10 s) s ∷ lines_behind s
unfolding lines_of index_of lines_behind headed
lines_first [] = refl
lines_first (b ∷ s) = go (eqb b 10) (lines_first s)
  where
    go : (t : Bool) → lines_of s ≡ take (index_of 10 s) s ∷ lines_behind s
        → cond t ([] ∷ lines_of s) (headed b (lines_of s))
        ≡ take (cond t zero (suc (index_of 10 s))) (b ∷ s)
        ∷ cond (ltb (cond t zero (suc (index_of 10 s))) (suc (length s))) (lines_of (drop (suc (cond t zero (suc (index_of 10 s)))) (b ∷ s))) []
    go true h = rw (lt-ltb 0 (suc (length s)) (zero-lt-suc (length s)))
    go false h = rw (h, leb-suc-suc (suc (index_of 10 s)) (length s))

-- the first test, and those of the others
all_first : (n : ℕ) (f : ℕ → Bool) → all_below (suc n) f ≡ (f 0 && all_below n (λ j. f (suc j)))
unfolding all_below
all_first zero f = go (f 0)
  where
    go : (t : Bool) → (true && t) ≡ (t && true)
    go true = refl
    go false = refl
all_first (suc n) f = rw (all_first n f) (go (f 0) (all_below n (λ j. f (suc j))) (f (suc n)))
  where
    go : (t u v : Bool) → ((t && u) && v) ≡ (t && (u && v))
    go true u v = refl
    go false u v = refl

swap : (t u v : Bool) → (t && (u && v)) ≡ (u && (t && v))
swap true true v = refl
swap true false v = refl
swap false true v = refl
swap false false v = refl

-- one text begins with another, as the library compares them
pub begins : (p s : List ℕ) → pointwise eqb (take (length p) s) p ≡ starts_with s p
unfolding starts_with all_below
begins [] [] = refl
begins [] (x ∷ s) = rw (le-leb 0 (suc (length s)) (omega arith))
begins (y ∷ p) [] = rw (leb-suc-zero (length p))
begins (y ∷ p) (x ∷ s) =
    rw (begins p s, leb-suc-suc (length p) (length s), all_first (length p) (λ j. eqb (get_or (x ∷ s) j 0) (get_or (y ∷ p) j 0)))
    (swap (eqb x y) (leb (length p) (length s)) (all_below (length p) (λ j. eqb (get_or s j 0) (get_or p j 0))))

-- and is it
pub same : (s p : List ℕ) → pointwise eqb s p ≡ is_text s p
unfolding is_text starts_with all_below
same [] [] = refl
same [] (y ∷ p) = rw (eqb-zero-suc (length p))
same (x ∷ s) [] = rw (eqb-suc-zero (length s))
same (x ∷ s) (y ∷ p) =
    rw (same s p, eqb-suc-suc (length s) (length p), leb-suc-suc (length p) (length s), all_first (length p) (λ j. eqb (get_or (x ∷ s) j 0) (get_or (y ∷ p) j 0)))
    (swap (eqb x y) (eqb (length s) (length p)) (starts_with s p) ∙ ap (λ t. eqb (length s) (length p) && t) (swap (eqb x y) (leb (length p) (length s)) (all_below (length p) (λ j. eqb (get_or s j 0) (get_or p j 0)))))
