-- What `ln` and its parts meet their contracts by: the series and the two branches. Assumes nothing.
use mathlib.Core.Path.{◌≡◌, sym, ap, ◌∙◌}
use mathlib.Core.Bool.{Bool, true, false, cond}
use Prim.Native.Nat.{ℕ, zero, suc, ◌+◌, ◌-◌, ◌*◌, ◌≤◌, ◌<◌}
use native.Mathlib.Nat.{lt_irrefl, lt_of_not-le}
use native.Mathlib.Decide.{dec_le}
use native.Mathlib.Omega.{arith}
use lib.IntN.{ℤ, pos, negsuc}
use lib.Ieee.{Float, binary64, minus, le, of_int}
use Rattle.binary64.specs.Operators.{◌⊕◌, ◌⊖◌, ◌⊗◌, ◌⊘◌, count}
use Rattle.elementary.specs.Exp.{one}
use Rattle.elementary.specs.Ln.{two, ln2, terms, ln_parts, raise, ln_split, three_halves, twenty_three}
use Rattle.min_max.proofs.Format.{minus_up, minus_down}

-- ---- the series
pub terms_end : (j : ℕ) (q a : Float) → j ≡ 0 → terms j q a ≡ a
unfolding terms
terms_end j q a z = ap (λ (i : ℕ). terms i q a) z

pub terms_step : (j : ℕ) (q a : Float) → 0 < j → terms (j - 1) q ((one ⊘ count (2 * (j - 1) + 1)) ⊕ (q ⊗ a)) ≡ terms j q a
unfolding terms
terms_step zero q a h = absurd (lt_irrefl 0 h)
terms_step (suc j) q a h = let e : suc j - 1 ≡ j = omega arith in ap (λ (i : ℕ). terms i q ((one ⊘ count (2 * i + 1)) ⊕ (q ⊗ a))) e

pub parts_is : (m k s : Float) → s ≡ (m ⊖ one) ⊘ (m ⊕ one) → (k ⊗ ln2) ⊕ ((two ⊗ s) ⊗ terms 11 (s ⊗ s) (one ⊘ twenty_three)) ≡ ln_parts m k
unfolding ln_parts
parts_is m k s e = ap (λ (z : Float). (k ⊗ ln2) ⊕ ((two ⊗ z) ⊗ terms 11 (z ⊗ z) (one ⊘ twenty_three))) e

-- ---- the difference of two exponents
pub minus_same : (a b c d : ℕ) → a + d ≡ c + b → minus a b ≡ minus c d
minus_same a b c d e = elim (dec_le b a) [
  | yes h ↦ let f : a - b ≡ c - d = omega arith in minus_up a b h ∙ ap pos f ∙ sym (minus_up c d (omega arith))
  | no n ↦
      let h : a < b = lt_of_not-le n in
      let f : b - suc a ≡ d - suc c = omega arith in
      minus_down a b h ∙ ap negsuc f ∙ sym (minus_down c d (omega arith))
]

pub raise_minus : (a b : ℕ) → raise (minus a b) ≡ minus (a + 1) b
raise_minus a b = elim (dec_le b a) [
  | yes h ↦ let f : suc (a - b) ≡ a + 1 - b = omega arith in ap raise (minus_up a b h) ∙ ap pos f ∙ sym (minus_up (a + 1) b (omega arith))
  | no n ↦ below (lt_of_not-le n) (dec_le b (a + 1))
]
  where
    below : a < b → Dec (b ≤ a + 1) → raise (minus a b) ≡ minus (a + 1) b
    below h (yes k) =
        let f : b - suc a ≡ 0 = omega arith in
        let g : 0 ≡ a + 1 - b = omega arith in
        ap raise (minus_down a b h ∙ ap negsuc f) ∙ ap pos g ∙ sym (minus_up (a + 1) b k)
    below h (no n) =
        let k : a + 1 < b = lt_of_not-le n in
        let f : b - suc a ≡ suc (b - suc (a + 1)) = omega arith in
        ap raise (minus_down a b h ∙ ap negsuc f) ∙ sym (minus_down (a + 1) b k)

-- ---- the two branches
pub split_small : (m : Float) (k : ℤ) → le three_halves m ≡ false → ln_split m k ≡ ln_parts m (of_int binary64 k)
unfolding ln_split
split_small m k h = ap (λ (b : Bool). cond b (ln_parts (m ⊘ two) (of_int binary64 (raise k))) (ln_parts m (of_int binary64 k))) h

pub split_large : (m : Float) (w : ℕ) → le three_halves m ≡ true → ln_split m (minus w 1074) ≡ ln_parts (m ⊘ two) (of_int binary64 (minus (w + 1) 1074))
unfolding ln_split
split_large m w h =
    ap (λ (b : Bool). cond b (ln_parts (m ⊘ two) (of_int binary64 (raise (minus w 1074)))) (ln_parts m (of_int binary64 (minus w 1074)))) h
    ∙ ap (λ (k : ℤ). ln_parts (m ⊘ two) (of_int binary64 k)) (raise_minus w 1074)
