-- Ranges by monotone rounding: a fraction that is at most A / C rounds to at most A / C, where A / C is a value of binary64 (`exact A C`), and so from below.
-- `Most x s A C`: x is finite, has the sign s, and is at most A / C in size. `Least x B E`: it is at least B / E in size. Assumes nothing.
use Rattle.std.specs.Prelude.{◌≡◌, refl, ℕ, zero, suc, ◌+◌, ◌*◌, ◌/◌, ◌^◌, ◌≤◌, ◌<◌, Bool, true, false, not, ◌&&◌, cond, T, ltb, leb, eqb, Float}
use Rattle.std.proofs.Common.{sym, ap, ◌∙◌, subst, subst₂, zero-le, le_trans, le_of_eq, zero-mul, zero-lt-suc, ltb→lt, leb→le, eqb→eq}
use Rattle.std.specs.Float.{binary64}
use Rattle.std.specs.Float.Ieee.{round, le, neg}
use Rattle.std.specs.Float.Ieee.Exact.{HasValue, round_exact}
use Rattle.std.specs.Float.Ieee.Order.{round_mono}
use Rattle.std.specs.Float.Ieee.Positive.{num, den, den_pos, through}
use Rattle.std.specs.Float.Ieee.Scale.{finite}
use Rattle.binary64.specs.Operators.{negative}
use Rattle.binary64.specs.Order.{Below, le→below, sign_finite, value_finite, value_sign, value_cross}
use Rattle.binary64.specs.Sign.{neg_num, neg_den, neg_finite, neg_sign, round_sign, round_num, round_den, round_finite}
use Rattle.binary64.specs.Range.{Between, Least, Most, all_four, exact, exact_at, plain, spare}

module _ (A C q j : ℕ) (t : T (exact_at A C q j)) where
  parts : T (ltb 0 C) × T (ltb q (2 ^ 53)) × T (ltb (q * 2 ^ j) (2 ^ 2098)) × T (eqb (A * 2 ^ 1074) (q * 2 ^ j * C))
  parts = all_four (ltb 0 C) (ltb q (2 ^ 53)) (ltb (q * 2 ^ j) (2 ^ 2098)) (eqb (A * 2 ^ 1074) (q * 2 ^ j * C)) t

  at_over : 0 < C
  at_over = ltb→lt 0 C parts.0

  at_value : HasValue (round binary64 false A C) false A C
  at_value = round_exact binary64 false A C q j at_over (ltb→lt q (2 ^ 53) parts.1) (ltb→lt (q * 2 ^ j) (2 ^ 2098) parts.2) (eqb→eq (A * 2 ^ 1074) (q * 2 ^ j * C) parts.3)

pub exact_over : (A C : ℕ) → T (exact A C) → 0 < C
exact_over A C t = let n = A * 2 ^ 1074 / C in let j = spare 11 n in at_over A C (n / 2 ^ j) j t

pub exact_value : (A C : ℕ) → T (exact A C) → HasValue (round binary64 false A C) false A C
exact_value A C t = let n = A * 2 ^ 1074 / C in let j = spare 11 n in at_value A C (n / 2 ^ j) j t

pub most_of_le : (x hi : Float) (A C : ℕ) → negative x ≡ false → 0 < C → HasValue hi false A C → T (le x hi) → Most x false A C
most_of_le x hi A C s P v h =
    let q = value_finite hi false A C v in
    let p = sign_finite x hi s q h in
    record { over = P; fine = p; sign = s; most = through (num x) (num hi) A (den x) (den hi) C (den_pos hi) (plain x hi s (value_sign hi false A C v) p q h) (le_of_eq (value_cross hi false A C v)) }

pub least_of_le : (lo x : Float) (B E : ℕ) → negative x ≡ false → T (finite x) → 0 < E → HasValue lo false B E → T (le lo x) → Least x B E
least_of_le lo x B E s p P v h =
    let q = value_finite lo false B E v in
    record { over = P; least = through B (num lo) (num x) E (den lo) (den x) (den_pos lo) (le_of_eq (sym (value_cross lo false B E v))) (plain lo x (value_sign lo false B E v) s q p h) }

-- ---- what `round` gives
module _ (s : Bool) (n d : ℕ) (D : 0 < d) where
  pub round_most : (A C : ℕ) → T (exact A C) → n * C ≤ A * d → Most (round binary64 s n d) s A C
  round_most A C x h =
      let r = most_of_le (round binary64 false n d) (round binary64 false A C) A C (round_sign binary64 false n d) (exact_over A C x) (exact_value A C x) (round_mono binary64 n d A C D (exact_over A C x) h) in
      record {
        over = r.over;
        fine = subst (λ (b : Bool). T b) (sym (round_finite binary64 s n d)) r.fine;
        sign = round_sign binary64 s n d;
        most = rw (round_num binary64 s n d, round_den binary64 s n d) r.most;
      }

  round_least : (B E : ℕ) → T (exact B E) → T (finite (round binary64 s n d)) → B * d ≤ n * E → Least (round binary64 s n d) B E
  round_least B E y p k =
      let r = least_of_le (round binary64 false B E) (round binary64 false n d) B E (round_sign binary64 false n d) (subst (λ (b : Bool). T b) (round_finite binary64 s n d) p) (exact_over B E y) (exact_value B E y) (round_mono binary64 B E n d (exact_over B E y) D k) in
      record { over = r.over; least = rw (round_num binary64 s n d, round_den binary64 s n d) r.least }

  pub round_between : (A C B E : ℕ) → T (exact A C) → T (exact B E) → n * C ≤ A * d → B * d ≤ n * E → Between (round binary64 s n d) s A C B E
  round_between A C B E x y h k =
      let m = round_most A C x h in
      (m, round_least B E y m.fine k)
