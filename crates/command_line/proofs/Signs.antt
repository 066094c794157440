-- A text without an '='. Assumes nothing.
use Rattle.std.proofs.Common.{◌≡◌, ℕ, zero, suc, Bool, true, false, cond, not, ◌&&◌, ◌||◌, List, [], ◌∷◌, eqb, ltb, length, refl, zero-lt-suc, lt-ltb}
use Rattle.std.proofs.Math.Dec.{eqb-suc-zero, eqb-zero-suc, eqb-suc-suc}
use Rattle.std.specs.List.{list_any}
use Rattle.plain_text.specs.Text.{index_of}
use Rattle.command_line.specs.Arguments.{names_cell}

no_sign : (s : List ℕ) → not (list_any (λ y. eqb y 61) s) ≡ eqb (index_of 61 s) (length s)
unfolding index_of
no_sign [] = refl
no_sign (x ∷ s) = go (eqb x 61) (no_sign s)
  where
    go :
        (t : Bool) → not (list_any (λ y. eqb y 61) s) ≡ eqb (index_of 61 s) (length s)
        → not (t || list_any (λ y. eqb y 61) s) ≡ eqb (cond t zero (suc (index_of 61 s))) (suc (length s))
    go true h = rw (eqb-zero-suc (length s))
    go false h = rw (eqb-suc-suc (index_of 61 s) (length s)) h

some_byte : (s : List ℕ) → not (eqb (length s) 0) ≡ ltb 0 (length s)
some_byte [] = refl
some_byte (x ∷ s) = rw (eqb-suc-zero (length s), lt-ltb 0 (suc (length s)) (zero-lt-suc (length s)))

pub names : (s : List ℕ) → not (eqb (length s) 0) && not (list_any (λ y. eqb y 61) s) ≡ names_cell s
unfolding names_cell
names s = rw (some_byte s, no_sign s)
