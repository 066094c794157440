-- What writing words a to b - 1 leaves alone, and that a row of numbers that is written is read back. Assumes nothing.
use Rattle.std.specs.Prelude.{ℕ, zero, suc, ◌≤◌, ◌<◌, ◌+◌, ◌*◌, ◌≡◌, refl, List, length, get_or, replicate, Float}
use Rattle.std.proofs.Common.{sym, ap, ◌∙◌, inl, inr, ⊎_elim, arith, not-suc-le-zero, eq-or-lt_of_le, le_of_suc-le-suc, le_refl, ext_get_or}
use Rattle.std.proofs.lemmas.List.{length-replicate}
use Rattle.std.specs.Float.{nan, binary64}
use Rattle.std.specs.Float.Ieee.{of_bits, to_bits}
use Rattle.iterate.specs.Iterate.{first_by, first_length, first_below, first_cong}
use Rattle.codec.specs.Words.{word_at, put_word, float_at, put_float, put_places, places_at, put_row}
use Rattle.image_laws.specs.Words.{Outside, word_length, word_other, float_written}
use Rattle.image_laws.specs.Encodable.{EncodableRow}

-- ---- from s to s' at most words a to b - 1 change
pub record Writes (a b : ℕ) (s s' : List ℕ) : Type 0 where
  pub size : length s' ≡ length s
  pub outside : (k : ℕ) → Outside a b k → word_at s' k ≡ word_at s k

-- words a to b - 1 are the same
pub record SameWords (a b : ℕ) (s s' : List ℕ) : Type 0 where
  pub words : (k : ℕ) → a ≤ k → k < b → word_at s' k ≡ word_at s k

pub same_part : {a b c d : ℕ} {s s' : List ℕ} → a ≤ c → d ≤ b → SameWords a b s s' → SameWords c d s s'
same_part h l p = record { words = λ k m n. p.words k (omega (arith, h, m)) (omega (arith, l, n)) }

-- what is written after b leaves words a to b - 1
pub same_below : {a b c d : ℕ} {s s' : List ℕ} → b ≤ c → Writes c d s s' → SameWords a b s s'
same_below h w = record { words = λ k l m. w.outside k (inl (omega (arith, h, m))) }

pub same_float : {a b : ℕ} {s s' : List ℕ} → SameWords a b s s' → (k : ℕ) → a ≤ k → k < b → float_at s' k ≡ float_at s k
unfolding float_at
same_float p k l m = ap (of_bits binary64) (p.words k l m)

pub writes_then : {a b c : ℕ} {s s' s'' : List ℕ} → a ≤ b → b ≤ c → Writes a b s s' → Writes b c s' s'' → Writes a c s s''
writes_then h l v w = record {
  size = w.size ∙ v.size;
  outside = λ k o.
      w.outside k (⊎_elim (λ q. inl (omega (arith, q, h))) (λ q. inr q) o) ∙ v.outside k (⊎_elim (λ q. inl q) (λ q. inr (omega (arith, q, l))) o);
}

pub writes_word : (s : List ℕ) (k n : ℕ) → Writes k (k + 1) s (put_word s k n)
writes_word s k n = record { size = word_length s k n; outside = λ j o. word_other s k n j o }

pub writes_float : (s : List ℕ) (k : ℕ) (x : Float) → Writes k (k + 1) s (put_float s k x)
unfolding put_float
writes_float s k x = writes_word s k (to_bits binary64 x)

-- ---- a row
pub writes_places : (n : ℕ) (s : List ℕ) (at : ℕ) (c : List Float) → Writes at (at + n) s (put_places n s at c)
unfolding put_places
writes_places zero s at c = record { size = refl; outside = λ k o. refl }
writes_places (suc n) s at c =
    let e : at + suc n ≡ at + n + 1 = omega arith in
    rw e (writes_then (omega arith) (omega arith) (writes_places n s at c) (writes_float (put_places n s at c) (at + n) (get_or c n nan)))

-- EACH PLACE THAT IS WRITTEN is read
pub places_read_back : (n : ℕ) (s : List ℕ) (at : ℕ) (c : List Float) → (at + n) * 8 ≤ length s → EncodableRow c → (i : ℕ) → i < n → float_at (put_places n s at c) (at + i) ≡ get_or c i nan
unfolding put_places
places_read_back zero s at c h f i l = absurd (not-suc-le-zero l)
places_read_back (suc n) s at c h f i l =
    let t = put_places n s at c in
    let e : length t ≡ length s = (writes_places n s at c).size in
    ⊎_elim
    (λ (q : i ≡ n). rw q (float_written t (at + n) (get_or c n nan) (rw e (omega (arith, h))) (f.place n)))
    (λ (q : i < n). same_float (same_below {a = 0} {b = at + n} (le_refl (at + n)) (writes_float t (at + n) (get_or c n nan))) (at + i) (omega arith) (omega (arith, q)) ∙ places_read_back n s at c (omega (arith, h)) f i q)
    (eq-or-lt_of_le (le_of_suc-le-suc l))

-- word k of a row, wherever it starts
pub place_read_back : (s : List ℕ) (at : ℕ) (c : List Float) → (at + length c) * 8 ≤ length s → EncodableRow c → (i k : ℕ) → i < length c → k ≡ at + i → float_at (put_row s at c) k ≡ get_or c i nan
place_read_back s at c h f i k l e = rw e (places_read_back (length c) s at c h f i l)

pub row_written : (n : ℕ) (s : List ℕ) (at : ℕ) (c : List Float) → length c ≡ n → (at + n) * 8 ≤ length s → EncodableRow c → places_at n (put_row s at c) at ≡ c
row_written n s at c e h f =
    let r : ℕ → Float = λ k. float_at (put_places (length c) s at c) (at + k) in
    let z : List Float = replicate n (of_bits binary64 0) in
    let m : length (first_by n r z) ≡ n = first_length r z n ∙ length-replicate n (of_bits binary64 0) in
    ext_get_or nan (first_by n r z) c (m ∙ sym e)
    (λ i l.
    let q : i < n = rw m at l in
    first_below r z n i nan q (rw (length-replicate n (of_bits binary64 0)) (le_refl n)) ∙ places_read_back (length c) s at c (rw e h) f i (rw e q))

-- THE ROW THAT IS WRITTEN is read
pub row_read_back : (n : ℕ) (s : List ℕ) (at : ℕ) (c : List Float) → length c ≡ n → (at + n) * 8 ≤ length s → EncodableRow c → places_at n (put_row s at c) at ≡ c
row_read_back n s at c e h f = row_written n s at c e h f

-- rows of the same words
pub row_same : (n : ℕ) (s s' : List ℕ) (at : ℕ) → SameWords at (at + n) s s' → places_at n s' at ≡ places_at n s at
row_same n s s' at p = first_cong (λ k. float_at s' (at + k)) (λ k. float_at s (at + k)) (replicate n (of_bits binary64 0)) n (λ i l. same_float p (at + i) (omega arith) (omega (arith, l)))
