-- The text grows byte by byte, digit by digit. Assumes nothing.
use Prim.Native.Nat.{ℕ, suc, ◌+◌, ◌*◌, ◌-◌, ◌/◌, ◌^◌, ◌≤◌, ◌<◌}
use mathlib.Core.Path.{◌≡◌, refl, sym, ap, ◌∙◌}
use mathlib.Core.Bool.{Bool, true, false, cond, not, ◌&&◌, ◌||◌}
use mathlib.Core.List.{List, [], ◌∷◌, ◌++◌}
use lib.Pow.{pow-add}
use native.Mathlib.Nat.{mul-lt-mul_of_pos_right, one-le-pow, zero-lt-suc}
use native.Mathlib.Omega.{arith}
use lib.Dec.{leb, eqb}
use lib.ListN.{length, drop, get_or, drop_of_length-le}
use lib.Seq.{drop-cons}
use native.Mathlib.Numerals.{add-one}
use Rattle.std.proofs.lemmas.Bool.{false≢true, true≢false}
use Rattle.decimal_spelling.specs.Limbs.{ten_by, sum_by, below_by_of, placed_at, whole_part_of, behind}
use Rattle.decimal_spelling.specs.Spelling.{Written, put_byte, put_all, Turn, turn_from, turn_with, turn_of, glyph, digits_by}
use Rattle.decimal_spelling.specs.Spelling.{passed, pass_zeros, whole_text, more_text, tiny_text, plain_text}

pub put_append : (w : Written) (s t : List ℕ) → put_all w (s ++ t) ≡ put_all (put_all w s) t
unfolding put_all
put_append w [] t = refl
put_append w (b ∷ s) t = put_append (put_byte w b) s t

-- ---- a whole number
pub whole_turn : (w : Written) (n l : ℕ) (t : Bool) → t ≡ leb (10 ^ l) n || eqb l 0 → put_all (cond t (put_byte w (glyph (n / 10 ^ l))) w) (whole_text l n) ≡ put_all w (whole_text (suc l) n)
unfolding put_all whole_text
whole_turn w n l true e = rw (← e)
whole_turn w n l false e = rw (← e)

-- ---- a digit
module _ (ten gap : List ℕ) (value : ℕ) (low high : Bool) (e : low ≡ below_by_of 20 (behind ten) gap) (f : high ≡ below_by_of 20 (placed_at 1 1080) (sum_by 20 (behind ten) gap).limbs) where
  pub turn_up : high && (not low || leb 0x800_0000_0000_0000 (get_or (behind ten) 17 0)) ≡ true → turn_from (behind ten) gap (value + 1) true ≡ turn_with ten gap value
  turn_up t = rw (← e, ← f, t)

  pub turn_plain : high && (not low || leb 0x800_0000_0000_0000 (get_or (behind ten) 17 0)) ≡ false → turn_from (behind ten) gap value low ≡ turn_with ten gap value
  turn_plain t = rw (← e, ← f, t)

module _ (rest gap ten g a one reach : List ℕ) (v : ℕ) (low high : Bool)
    (e-ten : ten ≡ (ten_by 20 rest).limbs)
    (e-gap : g ≡ (ten_by 20 gap).limbs)
    (e-value : v ≡ whole_part_of ten)
    (e-rest : a ≡ behind ten)
    (e-low : low ≡ below_by_of 20 a g)
    (e-one : one ≡ placed_at 1 1080)
    (e-reach : reach ≡ (sum_by 20 a g).limbs)
    (e-high : high ≡ below_by_of 20 one reach)
  where
    is_low : low ≡ below_by_of 20 (behind ten) g
    is_low = rw e-rest at e-low

    is_high : high ≡ below_by_of 20 (placed_at 1 1080) (sum_by 20 (behind ten) g).limbs
    is_high = e-high ∙ rw (e-one, e-reach, e-rest)

    is_turn : turn_with ten g v ≡ turn_of rest gap
    unfolding turn_of
    is_turn = rw (e-value, e-ten, e-gap)

    pub next_up : high && (not low || leb 0x800_0000_0000_0000 (get_or a 17 0)) ≡ true → turn_from a g (v + 1) true ≡ turn_of rest gap
    next_up t = rw e-rest (turn_up ten g v low high is_low is_high (rw e-rest at t) ∙ is_turn)

    pub next_plain : high && (not low || leb 0x800_0000_0000_0000 (get_or a 17 0)) ≡ false → turn_from a g v low ≡ turn_of rest gap
    next_plain t = rw e-rest (turn_plain ten g v low high is_low is_high (rw e-rest at t) ∙ is_turn)

-- the last digit, or one more
module _ (w : Written) (rest gap : List ℕ) (n : ℕ) (t : Turn) (e : t ≡ turn_of rest gap) where
  pub digits_stop : t.last ≡ true → put_byte w (glyph t.value) ≡ put_all w (digits_by (suc n) rest gap)
  unfolding put_all digits_by
  digits_stop h = rw (← e, h)

  pub digits-turn : t.last ≡ false → put_all (put_byte w (glyph t.value)) (digits_by n t.rest t.gap) ≡ put_all w (digits_by (suc n) rest gap)
  unfolding put_all digits_by
  digits-turn h = rw (← e, h)

-- the first digit that is no zero, or one zero more
module _ (n z : ℕ) (rest gap : List ℕ) (t : Turn) (e : t ≡ turn_of rest gap) where
  either_way : not (eqb t.value 0) || t.last ≡ false → (eqb t.value 0 && not t.last) ≡ true
  either_way h = go (eqb t.value 0) t.last h
    where
      go : (u v : Bool) → not u || v ≡ false → (u && not v) ≡ true
      go true true h = absurd (true≢false h)
      go true false h = refl
      go false v h = absurd (true≢false h)

  other_way : not (eqb t.value 0) || t.last ≡ true → (eqb t.value 0 && not t.last) ≡ false
  other_way h = go (eqb t.value 0) t.last h
    where
      go : (u v : Bool) → not u || v ≡ true → (u && not v) ≡ false
      go true true h = refl
      go true false h = absurd (false≢true h)
      go false v h = refl

  pub zeros-turn : not (eqb t.value 0) || t.last ≡ false → pass_zeros n (z + 1) t.rest t.gap ≡ pass_zeros (suc n) z rest gap
  unfolding pass_zeros
  zeros-turn h = rw (← e, either_way h)

  pub zeros_stop : not (eqb t.value 0) || t.last ≡ true → passed (z + 1) t.rest t.gap t.value t.last ≡ pass_zeros (suc n) z rest gap
  unfolding pass_zeros
  zeros_stop h = rw (← e, other_way h)

-- a byte more of a text
pub text-turn : (w : Written) (s : List ℕ) (i : ℕ) → i < length s → put_all (put_byte w (get_or s i 0)) (drop (i + 1) s) ≡ put_all w (drop i s)
unfolding put_all
text-turn w s i h = rw (add-one i, drop-cons s i 0 h)

pub text_over : (w : Written) (s : List ℕ) (i : ℕ) → length s ≤ i → put_all w (drop i s) ≡ w
unfolding put_all
text_over w s i h = rw (drop_of_length-le s h)

-- a limb of m * 2^at
pub product_below : (x s : ℕ) → s ≤ 60 → x < 2 ^ (60 - s) → x * 2 ^ s < 2 ^ 60
product_below x s h q =
    let e : 60 - s + s ≡ 60 = omega arith in
    rw (sym (pow-add 2 (60 - s) s) ∙ ap (λ (k : ℕ). 2 ^ k) e) at (mul-lt-mul_of_pos_right {m = x} {n = 2 ^ (60 - s)} {k = 2 ^ s} q (one-le-pow s 2 (zero-lt-suc 1)))

-- ---- the text, piece after piece
pub tiny-is :
    (w w1 w2 w3 w4 w5 : Written) (z v : ℕ) (last : Bool) (rest gap : List ℕ)
    → w1 ≡ put_byte w (glyph v) → w2 ≡ put_all w1 (more_text last rest gap) → w3 ≡ put_byte w2 101 → w4 ≡ put_byte w3 45 → w5 ≡ put_all w4 (whole_text 20 z)
    → w5 ≡ put_all w (tiny_text (passed z rest gap v last))
unfolding tiny_text put_all
tiny-is w w1 w2 w3 w4 w5 z v last rest gap e1 e2 e3 e4 e5 =
    e5 ∙ rw (e4, e3, e2, e1) (sym (put_append (put_byte w (glyph v)) (more_text last rest gap) (101 ∷ 45 ∷ whole_text 20 z)))

pub plain-is :
    (w w1 w2 : Written) (a rest gap : List ℕ) (v : ℕ) (none : Bool)
    → v ≡ whole_part_of a → rest ≡ behind a → w1 ≡ put_all w (whole_text 20 v) → none ≡ below_by_of 20 rest gap → w2 ≡ put_all w1 (more_text none rest gap)
    → w2 ≡ put_all w (plain_text a gap)
unfolding plain_text
plain-is w w1 w2 a rest gap v none e-v e-rest e1 e-none e2 =
    e2 ∙ rw (e1, e-none, e-v, e-rest) (sym (put_append w (whole_text 20 (whole_part_of a)) (more_text (below_by_of 20 (behind a) gap) (behind a) gap)))

pub sign_is : (w : Written) (t : Bool) (s : List ℕ) → put_all (cond t (put_byte w 45) w) s ≡ put_all w (cond t (45 ∷ s) s)
unfolding put_all
sign_is w true s = refl
sign_is w false s = refl
