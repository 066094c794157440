-- What a run leaves in its answer: the new image unless it is refused before its first row, else what stood there. Assumes nothing.
use Rattle.std.specs.Prelude.{ℕ, ◌≡◌, refl, Bool, true, false, cond, not, ◌||◌, List, eqb}

-- whether the answer is written: no refusal, or a row before it
abbrev pub writes_answer : ℕ → ℕ → Bool
writes_answer refusal rows = eqb refusal 0 || not (eqb rows 0)

-- a run whose result r is what the definition d says, with its number, its count of rows and the image that it writes
module _ {D : Type 0} (refusal rows : D → ℕ) (image : D → List ℕ) (r d : D) (old : List ℕ) (e : r ≡ d) where
  pub run_written_lem : (last : List ℕ) → writes_answer (refusal r) (rows r) ≡ true → last ≡ image r
      → (refusal r ≡ refusal d) × (last ≡ cond (writes_answer (refusal d) (rows d)) (image d) old)
  run_written_lem last z l = rw (← e, z) (refl, l)

  pub run_kept : writes_answer (refusal r) (rows r) ≡ false → (refusal r ≡ refusal d) × (old ≡ cond (writes_answer (refusal d) (rows d)) (image d) old)
  run_kept z = rw (← e, z) (refl, refl)
