-- Ranges by monotone rounding: a fraction that is at most A / C rounds to at most A / C, where A / C is a value of binary64 (`exact A C`), and so from below.
-- `Most x s A C`: x is finite, has the sign s, and is at most A / C in size. `Least x B E`: it is at least B / E in size. Assumes nothing.
use Rattle.std.specs.Prelude.{◌≡◌, refl, ℕ, zero, suc, ◌+◌, ◌*◌, ◌/◌, ◌^◌, ◌≤◌, ◌<◌, Bool, true, false, not, ◌&&◌, cond, T, ltb, leb, eqb, Float}
use Rattle.std.proofs.Common.{sym, ap, ◌∙◌, subst, subst₂, zero-le, le_trans, le_of_eq, zero-mul, zero-lt-suc, ltb→lt, leb→le}
use Rattle.std.specs.Float.Ieee.{le, neg}
use Rattle.std.specs.Float.Ieee.Positive.{num, den, through}
use Rattle.std.specs.Float.Ieee.Scale.{finite}
use Rattle.binary64.specs.Operators.{negative}
use Rattle.binary64.specs.Order.{Below, le→below}
use Rattle.binary64.specs.Sign.{neg_num, neg_den, neg_finite, neg_sign}

-- ---- A / C is a value of binary64: a test that antt computes at numerals
-- how many digits of n stand after its first 53, for an n below 2 ^ (53 + 2 ^ k)
abbrev pub spare : ℕ → ℕ → ℕ
spare zero n = cond (ltb n (2 ^ 53)) 0 1
spare (suc k) n = let s = cond (ltb n (2 ^ (53 + 2 ^ k))) 0 (2 ^ k) in s + spare k (n / 2 ^ s)

-- A / C is q * 2 ^ j of the smallest value, 2 ^ -1074, with a q of 53 digits, and below 2 ^ 1024
abbrev pub exact_at : ℕ → ℕ → ℕ → ℕ → Bool
exact_at A C q j = ltb 0 C && ltb q (2 ^ 53) && ltb (q * 2 ^ j) (2 ^ 2098) && eqb (A * 2 ^ 1074) (q * 2 ^ j * C)

abbrev pub exact : ℕ → ℕ → Bool
exact A C = let n = A * 2 ^ 1074 / C in let j = spare 11 n in exact_at A C (n / 2 ^ j) j

pub all_four : (a b c d : Bool) → T (a && b && c && d) → T a × T b × T c × T d
all_four true true true true t = (tt, tt, tt, tt)
all_four true true true false t = absurd t
all_four true true false d t = absurd t
all_four true false c d t = absurd t
all_four false b c d t = absurd t

-- ---- the ranges
pub record Most (x : Float) (s : Bool) (A C : ℕ) : Type 0 where
  pub over : 0 < C
  pub fine : T (finite x)
  pub sign : negative x ≡ s
  pub most : num x * C ≤ A * den x

pub record Least (x : Float) (B E : ℕ) : Type 0 where
  pub over : 0 < E
  pub least : B * den x ≤ num x * E

abbrev pub Between : Float → Bool → ℕ → ℕ → ℕ → ℕ → Type 0
Between x s A C B E = Most x s A C × Least x B E

-- of the sign +
abbrev pub Within : Float → ℕ → ℕ → ℕ → ℕ → Type 0
Within x A C B E = Between x false A C B E

-- of whatever sign
abbrev pub Sized : Float → ℕ → ℕ → Type 0
Sized x A C = Most x (negative x) A C

pub sized : {x : Float} {s : Bool} {A C : ℕ} → Most x s A C → Sized x A C
sized h = record { over = h.over; fine = h.fine; sign = refl; most = h.most }

-- a size is 0 at least
pub least_zero : {x : Float} → Least x 0 1
least_zero {x} = record { over = zero-lt-suc 0; least = le_trans (le_of_eq (zero-mul (den x))) zero-le }

pub most_wider : {x : Float} {s : Bool} {A C : ℕ} → Most x s A C → (B D : ℕ) → T (ltb 0 D) → T (leb (A * D) (B * C)) → Most x s B D
most_wider {x} {s} {A} {C} h B D p l = record { over = ltb→lt 0 D p; fine = h.fine; sign = h.sign; most = through (num x) A B (den x) C D h.over h.most (leb→le (A * D) (B * C) l) }

pub least_wider : {x : Float} {B E : ℕ} → Least x B E → (K J : ℕ) → T (ltb 0 J) → T (leb (K * E) (B * J)) → Least x K J
least_wider {x} {B} {E} h K J p l = record { over = ltb→lt 0 J p; least = through K B (num x) J E (den x) h.over (leb→le (K * E) (B * J) l) h.least }

pub neg_most : {x : Float} {s : Bool} {A C : ℕ} → Most x s A C → Most (neg x) (not s) A C
neg_most {x} {s} {A} {C} h = record {
  over = h.over;
  fine = subst (λ (b : Bool). T b) (sym (neg_finite x)) h.fine;
  sign = neg_sign x h.fine ∙ ap not h.sign;
  most = rw (neg_num x, neg_den x) h.most;
}

pub neg_least : {x : Float} {B E : ℕ} → Least x B E → Least (neg x) B E
neg_least {x} h = record { over = h.over; least = rw (neg_num x, neg_den x) h.least }

-- ---- from comparisons
-- both of the sign +
pub plain : (x y : Float) → negative x ≡ false → negative y ≡ false → T (finite x) → T (finite y) → T (le x y) → num x * den y ≤ num y * den x
plain x y s t p q h = subst₂ (λ (a b : Bool). Below a (num x * den y) b (num y * den x)) s t (le→below x y p q h)
