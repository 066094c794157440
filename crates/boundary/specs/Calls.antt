-- What each call of the boundary returns and what it leaves in its answer, for every string of bytes of every length. A call whose number is not
-- listed is 2, whatever the lengths; then a wrong length of the image or of the answer is 10, before the table's 1. Both leave the answer as it was.
-- Definitions only.
use Rattle.std.specs.Prelude.{ℕ, Bool, cond, ◌&&◌, List, [], eqb, leb, length, Float}
use Rattle.refusal.specs.Numbers as N
use Rattle.refusal.specs.Answers.{Outcome}
use Rattle.codec.specs.Words.{put_row}
use Rattle.dense.specs.Solve.{solved}
use Rattle.image_numbers.specs.Numbers.{number_outcome, number_length}
use Rattle.image_rows.specs.Written.{written}
use Rattle.image_builds.specs.Builds.{ready_put, new_return, new_after, build_length, built_length}
use Rattle.cell_calls.specs.Steps as C
use Rattle.dfn_calls.specs.Steps as P
use Rattle.image_layout.specs.Layout.{number_bytes, solution_bytes, particle_bytes, electrolyte_bytes, cell_bytes, cell_step_bytes, dfn_bytes, dfn_step_bytes}

-- whether a call is listed: 1 to n
abbrev pub listed : ℕ → ℕ → Bool
listed call n = leb 1 call && leb call n

-- whether the image and the answer have the lengths m and n
abbrev pub lengths : ℕ → ℕ → ℕ → ℕ → Bool
lengths image m answer n = eqb image m && eqb answer n

-- the number of a call whose lengths are right or not
unfoldable pub after_lengths : Bool → ℕ → ℕ
after_lengths fits n = cond fits n N.bad_length

-- ---- numbers

unfoldable pub number_call : ℕ → List ℕ → Float → Float → ℕ → Outcome
number_call call s x y answer =
    cond (listed call 19)
    (cond (lengths (length s) (number_length call) answer number_bytes) (number_outcome call s x y) (record { refusal = N.bad_length; values = [] }))
    (record { refusal = N.sheet; values = [] })

-- ---- records

unfoldable pub build_return : ℕ → List ℕ → ℕ → ℕ
build_return call s answer =
    cond (listed call 12)
    (after_lengths (lengths (length s) (build_length call) answer (built_length call)) (cond (leb call 6) 0 (new_return call s)))
    N.sheet

unfoldable pub build_after : ℕ → List ℕ → List ℕ → List ℕ
build_after call s a =
    cond (listed call 12)
    (cond (lengths (length s) (build_length call) (length a) (built_length call)) (cond (leb call 6) (ready_put call a) (new_after call s a)) a)
    a

-- ---- steps

unfoldable pub particle_return : List ℕ → Float → Float → Float → ℕ → ℕ
particle_return s j dt t answer = after_lengths (lengths (length s) particle_bytes answer particle_bytes) (C.particle_return s j dt t)

unfoldable pub particle_after : List ℕ → Float → Float → Float → List ℕ → List ℕ
particle_after s j dt t a = cond (lengths (length s) particle_bytes (length a) particle_bytes) (C.particle_after s j dt t a) a

unfoldable pub cell_return : List ℕ → Float → Float → Float → ℕ → ℕ
cell_return s i dt t answer = after_lengths (lengths (length s) cell_bytes answer cell_step_bytes) (C.cell_return s i dt t)

unfoldable pub cell_after : List ℕ → Float → Float → Float → List ℕ → List ℕ
cell_after s i dt t a = cond (lengths (length s) cell_bytes (length a) cell_step_bytes) (C.cell_after s i dt t a) a

unfoldable pub electrolyte_return : List ℕ → Float → Float → Float → Float → ℕ → ℕ
electrolyte_return s j_neg j_pos dt t answer = after_lengths (lengths (length s) electrolyte_bytes answer electrolyte_bytes) (P.electrolyte_return s j_neg j_pos dt t)

unfoldable pub electrolyte_after : List ℕ → Float → Float → Float → Float → List ℕ → List ℕ
electrolyte_after s j_neg j_pos dt t a = cond (lengths (length s) electrolyte_bytes (length a) electrolyte_bytes) (P.electrolyte_after s j_neg j_pos dt t a) a

unfoldable pub dfn_return : List ℕ → Float → Float → ℕ → ℕ
dfn_return s i dt answer = after_lengths (lengths (length s) dfn_bytes answer dfn_step_bytes) (P.dfn_return s i dt)

unfoldable pub dfn_after : List ℕ → Float → Float → List ℕ → List ℕ
dfn_after s i dt a = cond (lengths (length s) dfn_bytes (length a) dfn_step_bytes) (P.dfn_after s i dt a) a

-- ---- equations

unfoldable pub dense_return : List Float → List Float → ℕ → ℕ → ℕ
dense_return a b n answer = after_lengths (eqb answer solution_bytes) (solved a b n).refusal

unfoldable pub dense_after : List Float → List Float → ℕ → List ℕ → List ℕ
dense_after a b n s = cond (eqb (length s) solution_bytes) (written (solved a b n).refusal (put_row s 0 (solved a b n).x) s) s
