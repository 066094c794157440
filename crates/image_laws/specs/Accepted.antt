-- What it means that a call returns 0: its lengths are right, its inputs pass, and its answer is what it writes. Assumes nothing.
use Rattle.std.specs.Prelude.{ℕ, zero, suc, ◌≡◌, refl, Bool, true, false, cond, List, T, eqb, length}
use Rattle.std.proofs.Common.{sym, ◌∙◌, arith, eqb-true, eq-eqb}
use Rattle.std.proofs.Math.Bool.{and-eq-true_iff}
use Rattle.std.proofs.Math.Dec.{eqb-suc-zero}
use Rattle.refusal.specs.Numbers as N
use Rattle.runs.specs.RunAnswers.{writes_answer}
use Rattle.boundary.specs.Calls.{lengths, after_lengths}

-- an answer that is x where the inputs' number k is 0 and else y, which has the number k
module _ {A : Type 0} (refusal : A → ℕ) (k : ℕ) (x y : A) (e : refusal y ≡ k) (h : refusal (cond (eqb k 0) x y) ≡ 0) where
  refused_number : (j : ℕ) → k ≡ suc j → k ≡ 0
  refused_number j d = let z : refusal y ≡ 0 = rw (d, eqb-suc-zero j) at h in sym e ∙ z

  -- it is accepted: its inputs pass
  pub inputs_pass : k ≡ 0
  inputs_pass = go k refl
    where
      go : (j : ℕ) → k ≡ j → k ≡ 0
      go zero d = d
      go (suc j) d = refused_number j d

  -- and it is x
  pub accepted_is : cond (eqb k 0) x y ≡ x
  accepted_is = rw (eq-eqb k 0 inputs_pass)

-- a number that is 0 although a test has its say
pub after_lengths_lem : (b : Bool) (k : ℕ) → after_lengths b k ≡ 0 → (b ≡ true) × (k ≡ 0)
unfolding after_lengths
after_lengths_lem true k h = (refl, h)
after_lengths_lem false k h = let z : N.bad_length ≡ 0 = h in absurd (omega (arith, z))

-- a call of the boundary that returns 0: image s of m bytes, answer a of n bytes, the number k, and `new` in the answer
pub record Accepted (s a : List ℕ) (m n k : ℕ) (new : List ℕ) : Type 0 where
  pub image : length s ≡ m
  pub answer : length a ≡ n
  pub refusal : k ≡ 0
  pub writes : cond (lengths (length s) m (length a) n) new a ≡ new

pub accepted : (s a : List ℕ) (m n k : ℕ) (new : List ℕ) → after_lengths (lengths (length s) m (length a) n) k ≡ 0 → Accepted s a m n k new
accepted s a m n k new h =
    let c = after_lengths_lem (lengths (length s) m (length a) n) k h in
    record {
      image = eqb-true (length s) m ((and-eq-true_iff (eqb (length s) m) (eqb (length a) n)).0 c.0).0;
      answer = eqb-true (length a) n ((and-eq-true_iff (eqb (length s) m) (eqb (length a) n)).0 c.0).1;
      refusal = c.1;
      writes = rw c.0;
    }

-- a run that returns 0 has written its answer
pub no_refusal : (refusal rows : ℕ) → refusal ≡ 0 → T (writes_answer refusal rows)
no_refusal refusal rows h = rw (eq-eqb refusal 0 h) tt
