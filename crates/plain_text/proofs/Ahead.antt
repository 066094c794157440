-- What a text begins and ends with, byte by byte. Assumes nothing.
use Rattle.std.proofs.Common.{◌≡◌, ℕ, zero, suc, ◌+◌, ◌<◌, ◌≤◌, Bool, true, false, cond, not, List, ltb, eqb, length, take, drop, get_or, Option, Some, None, unwrap_or, Bor, refl, sym, ap, ◌∙◌, arith}
use borrow.Author.Tests.{ltb-true}
use Rattle.std.proofs.lemmas.Bool.{ltb-false}
use Rattle.std.proofs.lemmas.List.Sums.{prefix_len-le-length}
use Rattle.std.specs.Option.{MatchOption}
use Rattle.std.specs.List.{position_or_len}
use Rattle.std.specs.Cmp.Lexicographic.{pointwise}
use Rattle.std.proofs.lemmas.List.Recursion.{is_position_or_len}
use Rattle.plain_text.specs.Text.{is_blank, index_of, blanks_ahead, solid_end, starts_with}
use Rattle.plain_text.specs.Pieces.{begins}

pub index_at : (b : ℕ) (s : List ℕ) → index_of b s ≡ position_or_len (λ x. eqb x b) s
unfolding index_of
index_at b s = is_position_or_len (index_of b) (λ x. eqb x b) refl (λ x xs. ap (λ n. cond (eqb x b) 0 n) (omega arith)) s

pub blanks_at : (s : List ℕ) → blanks_ahead s ≡ position_or_len (λ b. not (is_blank b)) s
unfolding blanks_ahead
blanks_at s = is_position_or_len blanks_ahead (λ b. not (is_blank b)) refl (λ x xs. turn (is_blank x) (blanks_ahead xs)) s
  where
    turn : (t : Bool) (n : ℕ) → cond t (suc n) zero ≡ cond (not t) 0 (1 + n)
    turn true n = omega arith
    turn false n = refl

-- what a search for the first element that passes a test gives
abbrev pub Found : (ℕ → Bool) → List ℕ → Option ℕ → Type 0
Found test s r = r ≡ cond (ltb (position_or_len test s) (length s)) (Some (position_or_len test s)) None

found_or : (n l : ℕ) → n ≤ l → unwrap_or (cond (ltb n l) (Some n) None) l ≡ n
found_or n l h = go (ltb n l) refl
  where
    go : (t : Bool) → ltb n l ≡ t → unwrap_or (cond t (Some n) None) l ≡ n
    go true e = refl
    go false e = omega (arith, ltb-false n l e)

pub blanks_found : (s : List ℕ) (r : Option ℕ) → Found (λ b. not (is_blank b)) s r → unwrap_or r (length s) ≡ blanks_ahead s
blanks_found s r e = rw (e, blanks_at s) (found_or _ (length s) (prefix_len-le-length (λ b. not (not (is_blank b))) s))

pub index_missed : (b : ℕ) (s : List ℕ) (r : Option ℕ) → Found (λ x. eqb x b) s r → r ≡ None → index_of b s ≡ length s
index_missed b s r e q =
    rw (index_at b s) (sym (found_or (position_or_len (λ x. eqb x b) s) (length s) (prefix_len-le-length (λ x. not (eqb x b)) s)) ∙ ap (λ o. unwrap_or o (length s)) (sym e ∙ q))

pub index_found : (b : ℕ) (s : List ℕ) (r : Option ℕ) → Found (λ x. eqb x b) s r → (at : ℕ) → r ≡ Some at → (index_of b s < length s) × (at ≡ index_of b s)
index_found b s r e at q = rw (index_at b s) (go (ltb (position_or_len (λ x. eqb x b) s) (length s)) refl (sym e ∙ q))
  where
    go :
        (t : Bool) → ltb (position_or_len (λ x. eqb x b) s) (length s) ≡ t → cond t (Some (position_or_len (λ x. eqb x b) s)) None ≡ Some at
        → (position_or_len (λ x. eqb x b) s < length s) × (at ≡ position_or_len (λ x. eqb x b) s)
    go true e q = (ltb-true _ _ e, cc)
    go false e q = cc

pub solid_le : (k : ℕ) (s : List ℕ) → solid_end k s ≤ k
unfolding solid_end
solid_le zero s = omega arith
solid_le (suc k) s = go (is_blank (get_or s k 0)) (solid_le k s)
  where
    go : (t : Bool) → solid_end k s ≤ k → cond t (solid_end k s) (suc k) ≤ suc k
    go true h = omega arith
    go false h = omega arith

-- a text without the mark that it may begin with, as `strip_prefix` gives it
pub stripped :
    (s p : List ℕ) (r : Option (Bor (List ℕ))) (o : Bor (List ℕ)) → o.now ≡ s
    → MatchOption r (pointwise eqb (take (length p) s) p ≡ false) (λ x. (pointwise eqb (take (length p) s) p ≡ true) × (x.now ≡ drop (length p) s) × (length x.now + length p ≡ length s))
    → (unwrap_or r o).now ≡ cond (starts_with s p) (drop (length p) s) s
stripped s p None o q h = rw (← begins p s, h, q)
stripped s p (Some x) o q h = rw (← begins p s, h.0, h.1)
