-- Which places a system and its copy have, and what a system that is not refused has met. Assumes nothing.
use Prim.Native.Nat.{ℕ, zero, suc, ◌+◌, ◌*◌, ◌≤◌, ◌<◌}
use mathlib.Core.Path.{◌≡◌, refl, ap, ◌∙◌}
use mathlib.Core.List.{List, ◌∷◌}
use native.Mathlib.Omega.{arith}
use native.Mathlib.Nat.{suc-mul, mul-le-mul, mul-le-mul_right}
use lib.Dec.{eqb, eqb→eq, leb→le}
use lib.ListN.{length, take, length-replicate}
use lib.Ieee.{Float}
use lib.Ieee.Fits.{and_l, and_r}
use Rattle.refusal.specs.Numbers.{neither_refused, passed}
use Rattle.matrix_rows.specs.Places.{zeros}
use Rattle.dense.specs.Solve.{input_refusal}
use Rattle.binary64.specs.Literals.{«0·0»}

pub row_fits : (row n : ℕ) → row < n → row * n + n ≤ n * n
row_fits row n l = rw (← suc-mul) (mul-le-mul_right n l)

pub square_fits : (n : ℕ) → n ≤ 32 → n * n ≤ 1024
square_fits n l = mul-le-mul l l

-- zeros, cut off, are zeros; and how long they are
pub zeros_cut : (k l : ℕ) → k ≤ l → take k (zeros l) ≡ zeros k
zeros_cut zero l h = refl
zeros_cut (suc k) zero h = absurd (omega (arith, h))
zeros_cut (suc k) (suc l) h = ap (λ (r : List Float). «0·0» ∷ r) (zeros_cut k l (omega (arith, h)))

pub zeros_long : (m : List Float) (k : ℕ) → m ≡ zeros k → length m ≡ k
zeros_long m k e = ap length e ∙ length-replicate k «0·0»

pub input_valid : (a b : List Float) (n : ℕ) → input_refusal a b n ≡ 0 → (n ≤ 32) × ((length a ≡ n * n) × (length b ≡ n))
unfolding input_refusal
input_valid a b n e =
    let order = neither_refused _ _ e in
    let lengths = passed _ _ (omega arith) (neither_refused _ _ order.1).0 in (
      leb→le n 32 (passed _ _ (omega arith) order.0),
      (
        eqb→eq _ _ (and_l (eqb (length a) (n * n)) (eqb (length b) n) lengths),
        eqb→eq _ _ (and_r (eqb (length a) (n * n)) (eqb (length b) n) lengths),
      ),
    )
