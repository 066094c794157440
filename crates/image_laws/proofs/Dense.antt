-- The solution that `pj_solve_dense` gives is read back: 32 numbers of binary64, where the right side is a row of such. Assumes nothing.
use Rattle.std.specs.Prelude.{ℕ, ◌-◌, List, eqb, replicate, Float}
use Rattle.std.proofs.Common.{◌∙◌}
use Rattle.std.proofs.lemmas.List.{length-replicate}
use Rattle.binary64.specs.Literals.{«0·0»}
use Rattle.refusal.specs.Numbers.{first_refusal}
use Rattle.iterate.specs.Iterate.{first_length}
use Rattle.matrix_rows.specs.Loops.{either, try_keeps}
use Rattle.arrays.specs.Places.{at}
use Rattle.dense_elimination.specs.Elimination.{column_done, eliminated}
use Rattle.dense.specs.Substitution.{substituted}
use Rattle.dense.specs.Solve.{input_refusal, solution_refusal, loaded, reduced, solution, answer, solved}
use Rattle.image_laws.specs.Encodable.{EncodableRow, first_encodable, copies_encodable, literal}
use Rattle.image_laws.specs.Dense.{EncodableColumn, Side, column_done_lem, column_solved_lem}

loaded_side : (a b : List Float) (n : ℕ) → EncodableRow b → Side (loaded a b n)
unfolding loaded
loaded_side a b n h = record {
  count = first_length (at b) (replicate 32 «0·0») n ∙ length-replicate 32 «0·0»;
  places = first_encodable n (at b) (replicate 32 «0·0») (λ i. h.place i) (copies_encodable 32 «0·0» (literal 0));
}

solution_encodable : (a b : List Float) (n : ℕ) → EncodableRow b → EncodableColumn (solution a b n).value
unfolding solution reduced eliminated substituted
solution_encodable a b n h =
    try_keeps EncodableColumn n _ _ (λ i y _ p. column_solved_lem _ (n - 1 - i) y p) (try_keeps Side n (column_done n) (loaded a b n) (λ i y _ p. column_done_lem n i y p) (loaded_side a b n h))

pub solved_encodable : (a b : List Float) (n : ℕ) → EncodableRow b → EncodableColumn (solved a b n).x
unfolding solved answer
solved_encodable a b n h =
    either EncodableColumn (eqb (first_refusal (input_refusal a b n) (solution_refusal a b n)) 0) (solution a b n).value (replicate 32 «0·0») (solution_encodable a b n h)
    (record { count = length-replicate 32 «0·0»; places = copies_encodable 32 «0·0» (literal 0) })
