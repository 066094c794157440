-- THE LAW OF ANSWERS, for every record that an answer begins with: where the record can be encoded and the answer has room, it is read back from it, and from
-- its first bytes alone, whatever is written after it; and the answer keeps its length. Assumes nothing.
use Rattle.std.specs.Prelude.{ℕ, ◌≤◌, ◌*◌, ◌≡◌, refl, List, length, take}
use Rattle.std.proofs.Common.{◌∙◌, arith, le_refl, length-take-le}
use Rattle.image_laws.specs.Words.{word_take}
use Rattle.image_laws.specs.Rows.{Writes, SameWords, same_below}

-- the image of a record: `words` words, how they are read and written, and which records they can hold
pub record Layout {C : Type 0} (words : ℕ) (read : List ℕ → C) (put : List ℕ → C → List ℕ) (Encodable : C → Type 0) : Type 0 where
  pub same : (s s' : List ℕ) → SameWords 0 words s s' → read s' ≡ read s
  pub writes : (s : List ℕ) (c : C) → Encodable c → Writes 0 words s (put s c)
  pub read_back : (s : List ℕ) (c : C) → Encodable c → words * 8 ≤ length s → read (put s c) ≡ c

-- what the answer a has become: it begins with the image of c
pub record Holds {C : Type 0} (words : ℕ) (read : List ℕ → C) (a t : List ℕ) (c : C) : Type 0 where
  pub size : length t ≡ length a
  pub whole : read t ≡ c
  pub first : read (take (words * 8) t) ≡ c
  pub fills : length (take (words * 8) t) ≡ words * 8

module _ {C : Type 0} {words : ℕ} {read : List ℕ → C} {put : List ℕ → C → List ℕ} {Encodable : C → Type 0} (l : Layout words read put Encodable)
    (a : List ℕ) (c : C) (e : Encodable c) (n : words * 8 ≤ length a) where
  -- where words after the record's are written too
  pub holds : (t : List ℕ) (m : ℕ) → Writes words m (put a c) t → Holds words read a t c
  holds t m w =
      let k : length t ≡ length a = w.size ∙ (l.writes a c e).size in
      let r : words * 8 ≤ length t = rw k n in
      let x : read t ≡ c = l.same (put a c) t (same_below (le_refl words) w) ∙ l.read_back a c e n in
      record {
        size = k;
        whole = x;
        first = l.same t (take (words * 8) t) (record { words = λ i p q. word_take (words * 8) t i (omega (arith, q)) r }) ∙ x;
        fills = length-take-le (words * 8) t r;
      }

  -- where the record is all that is written
  pub holds_alone : Holds words read a (put a c) c
  holds_alone = holds (put a c) words (record { size = refl; outside = λ k o. refl })
