-- The whole answer of `solve_dense`: the copies it works on, docs/REFERENCE.md's refusals, the solution. Definitions only.
use Rattle.std.specs.Prelude.{ℕ, ◌+◌, ◌*◌, ◌&&◌, cond, List, eqb, leb, length, set, Float}
use Rattle.refusal.specs.Numbers as Numbers
use Rattle.refusal.specs.Numbers.{grid, sheet, not_finite_of, refusal_unless, first_refusal}
use Rattle.iterate.specs.Iterate.{first_by}
use Rattle.matrix_rows.specs.Loops.{for_range, Tried}
use Rattle.arrays.specs.Places.{at, all_finite}
use Rattle.matrix_rows.specs.Places.{place, zeros}
use Rattle.matrix_columns.specs.Columns.{System, system}
use Rattle.dense_elimination.specs.Elimination.{eliminated}
use Rattle.dense.specs.Substitution.{substituted}
use Rattle.dense.specs.Answers.{Solved}

-- ---- the copies

-- place k of row `row`, from a, whose rows are n long
unfoldable pub place_loaded : List Float → ℕ → ℕ → ℕ → List Float → List Float
place_loaded a n row k m = set m (place row k) (at a (row * n + k))

unfoldable pub row_loaded : List Float → ℕ → ℕ → List Float → List Float
row_loaded a n row m = for_range 0 n (place_loaded a n row) m

unfoldable pub matrix_loaded : List Float → ℕ → List Float → List Float
matrix_loaded a n m = for_range 0 n (row_loaded a n) m

-- the matrix in n rows of 32 places, the right side in 32
unfoldable pub loaded : List Float → List Float → ℕ → System
loaded a b n = system (matrix_loaded a n (zeros (n * 32))) (first_by n (at b) (zeros 32))

-- ---- the two halves. After a refusal a half holds nothing of use, and nothing looks at it.
unfoldable pub reduced : List Float → List Float → ℕ → Tried System
reduced a b n = eliminated n (loaded a b n)

unfoldable pub solution : List Float → List Float → ℕ → Tried (List Float)
solution a b n = substituted (reduced a b n).value.matrix n (reduced a b n).value.side

-- ---- the table: 1, 10, 2, then 9 or 8

-- of what is handed in: the order, the lengths, the entries of both sides
unfoldable pub input_refusal : List Float → List Float → ℕ → ℕ
input_refusal a b n =
    first_refusal (refusal_unless (leb n 32) grid)
    (first_refusal (refusal_unless (eqb (length a) (n * n) && eqb (length b) n) Numbers.bad_length)
    (refusal_unless (all_finite a (length a) && all_finite b (length b)) sheet))

-- of the solution: 9 says that there is none, 8 looks at one that there is
unfoldable pub solution_refusal : List Float → List Float → ℕ → ℕ
solution_refusal a b n =
    first_refusal (reduced a b n).refusal
    (first_refusal (solution a b n).refusal
    (refusal_unless (all_finite (solution a b n).value 32) not_finite_of))

-- ---- the answer

-- a number with the solution, or with +0 throughout where it is a refusal
unfoldable pub answer : ℕ → List Float → Solved
answer number x = record { refusal = number; x = cond (eqb number 0) x (zeros 32) }

unfoldable pub solved : List Float → List Float → ℕ → Solved
solved a b n = answer (first_refusal (input_refusal a b n) (solution_refusal a b n)) (solution a b n).value
