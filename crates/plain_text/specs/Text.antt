-- Blanks, lines and pieces of a text. Definitions only.
use Rattle.std.specs.Prelude.{ℕ, zero, suc, ◌-◌, min, Bool, cond, ◌&&◌, ◌||◌, List, [], ◌∷◌, leb, eqb, length, take, drop, get_or}
use Rattle.iterate.specs.Iterate.{all_below}

-- a space, a tab, or the carriage return before a line's end
abbrev pub is_blank : ℕ → Bool
is_blank b = eqb b 32 || eqb b 9 || eqb b 13

-- the place of the first b, or the length
unfoldable pub index_of : ℕ → List ℕ → ℕ
index_of b [] = zero
index_of b (x ∷ s) = cond (eqb x b) zero (suc (index_of b s))

-- how many blanks a text begins with
unfoldable pub blanks_ahead : List ℕ → ℕ
blanks_ahead [] = zero
blanks_ahead (b ∷ s) = cond (is_blank b) (suc (blanks_ahead s)) zero

-- the end of the last byte among the first k that is no blank
unfoldable pub solid_end : ℕ → List ℕ → ℕ
solid_end zero s = zero
solid_end (suc k) s = cond (is_blank (get_or s k 0)) (solid_end k s) (suc k)

-- the piece of a text from a place up to another one
abbrev pub piece : ℕ → ℕ → List ℕ → List ℕ
piece a e s = take (e - a) (drop a s)

-- a text without the blanks around it
unfoldable pub trimmed : List ℕ → List ℕ
trimmed s = piece (min (blanks_ahead s) (solid_end (length s) s)) (solid_end (length s) s) s

-- a text up to its first b
unfoldable pub before : ℕ → List ℕ → List ℕ
before b s = take (index_of b s) s

-- a byte in front of the first line
unfoldable pub headed : ℕ → List (List ℕ) → List (List ℕ)
headed b [] = (b ∷ []) ∷ []
headed b (l ∷ ls) = (b ∷ l) ∷ ls

-- the lines of a text, each up to its line feed; what stands after the last one is a line too
unfoldable pub lines_of : List ℕ → List (List ℕ)
lines_of [] = [] ∷ []
lines_of (b ∷ s) = cond (eqb b 10) ([] ∷ lines_of s) (headed b (lines_of s))

unfoldable pub starts_with : List ℕ → List ℕ → Bool
starts_with s p = leb (length p) (length s) && all_below (length p) (λ j. eqb (get_or s j 0) (get_or p j 0))

unfoldable pub is_text : List ℕ → List ℕ → Bool
is_text s p = eqb (length s) (length p) && starts_with s p

-- a text without the byte order mark that it may begin with
unfoldable pub after_mark : List ℕ → List ℕ
after_mark s = cond (starts_with s (239 ∷ 187 ∷ 191 ∷ [])) (drop 3 s) s
