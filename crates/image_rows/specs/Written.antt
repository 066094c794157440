-- What a call leaves in its answer beside its number: the new image, and where it is refused what stood there. Assumes nothing.
use Rattle.std.specs.Prelude.{ℕ, ◌+◌, ◌≡◌, cond, List, eqb}
use Rattle.std.proofs.Common.{ap}
use Rattle.codec.specs.Words.{put_word}
use borrow.Author.Tests.{ne_eqb}

unfoldable pub written : ℕ → List ℕ → List ℕ → List ℕ
written n new old = cond (eqb n 0) new old

-- a call whose result r is what the definition d says, with its number and the image that it writes
module _ {A : Type 0} (number : A → ℕ) (image : A → List ℕ) (r d : A) (old : List ℕ) (e : r ≡ d) where
  pub accepted : (last : List ℕ) → number r ≡ 0 → last ≡ image r → (number r ≡ number d) × (last ≡ written (number d) (image d) old)
  unfolding written
  accepted last z l = (ap number e, rw (← e, z) l)

  pub refused : (number r ≡ 0 → ⊥) → (number r ≡ number d) × (old ≡ written (number d) (image d) old)
  unfolding written
  refused h = (ap number e, rw (← e, ne_eqb (number r) 0 h))

-- how a run ended and its count of rows, as the words from `at` on
unfoldable pub put_ending : List ℕ → ℕ → ℕ → ℕ → List ℕ
put_ending s at ending rows = put_word (put_word s at ending) (at + 1) rows
