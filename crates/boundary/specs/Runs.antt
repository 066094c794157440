-- The same for runs: the number, the rows and the answer. Definitions only.
use Rattle.std.specs.Prelude.{ℕ, Bool, cond, ◌&&◌, List, eqb, length, Float}
use Rattle.refusal.specs.Numbers as N
use Rattle.runs.specs.Lowest.{Room}
use Rattle.replay_run.specs.Replay.{text_fits}
use Rattle.cycle_run.specs.declared.CycleSettings.{CycleSettings}
use Rattle.cell_calls.specs.Runs as C
use Rattle.dfn_calls.specs.Runs as P
use Rattle.boundary.specs.Calls.{lengths, after_lengths}
use Rattle.image_layout.specs.Layout.{cell_bytes, cell_run_bytes, phases_bytes, dfn_bytes, dfn_run_bytes}

-- ---- a single-particle cell

unfoldable pub discharge_return : List ℕ → Float → Float → Float → Float → Room → ℕ → ℕ
discharge_return s i dt t limit room answer = after_lengths (lengths (length s) cell_bytes answer cell_run_bytes) (C.discharge_return s i dt t limit room)

unfoldable pub discharge_rows : List ℕ → Float → Float → Float → Float → List Float → List Float → ℕ → List Float
discharge_rows s i dt t limit rows lowest answer = cond (lengths (length s) cell_bytes answer cell_run_bytes) (C.discharge_rows s i dt t limit rows lowest) rows

unfoldable pub discharge_lowest : List ℕ → Float → Float → Float → Float → List Float → List Float → ℕ → List Float
discharge_lowest s i dt t limit rows lowest answer = cond (lengths (length s) cell_bytes answer cell_run_bytes) (C.discharge_lowest s i dt t limit rows lowest) lowest

unfoldable pub discharge_after : List ℕ → Float → Float → Float → Float → Room → List ℕ → List ℕ
discharge_after s i dt t limit room a = cond (lengths (length s) cell_bytes (length a) cell_run_bytes) (C.discharge_after s i dt t limit room a) a

-- ---- a recorded load on a single-particle cell: 12 before the lengths

unfoldable pub replay_return : List ℕ → List ℕ → Float → ℕ → ℕ → ℕ
replay_return s text t places answer =
    cond (text_fits text) (after_lengths (lengths (length s) cell_bytes answer cell_run_bytes) (C.replay_return s text t places)) N.file

unfoldable pub replay_rows : List ℕ → List ℕ → Float → List Float → ℕ → List Float
replay_rows s text t l answer = cond (text_fits text && lengths (length s) cell_bytes answer cell_run_bytes) (C.replay_rows s text t l) l

unfoldable pub replay_after : List ℕ → List ℕ → Float → ℕ → List ℕ → List ℕ
replay_after s text t places a = cond (text_fits text && lengths (length s) cell_bytes (length a) cell_run_bytes) (C.replay_after s text t places a) a

-- ---- a cycle of phases on a single-particle cell

-- whether the cell, the phases and the answer have their lengths
abbrev pub cycle_lengths : ℕ → ℕ → ℕ → Bool
cycle_lengths cell phases answer = eqb cell cell_bytes && eqb phases phases_bytes && eqb answer cell_run_bytes

unfoldable pub cycle_return : List ℕ → List ℕ → CycleSettings → ℕ → ℕ → ℕ
cycle_return s phases g places answer = after_lengths (cycle_lengths (length s) (length phases) answer) (C.cycle_return s phases g places)

unfoldable pub cycle_rows : List ℕ → List ℕ → CycleSettings → List Float → ℕ → List Float
cycle_rows s phases g l answer = cond (cycle_lengths (length s) (length phases) answer) (C.cycle_rows s phases g l) l

unfoldable pub cycle_after : List ℕ → List ℕ → CycleSettings → ℕ → List ℕ → List ℕ
cycle_after s phases g places a = cond (cycle_lengths (length s) (length phases) (length a)) (C.cycle_after s phases g places a) a

-- ---- a Doyle-Fuller-Newman cell

unfoldable pub galvanostatic_return : List ℕ → Float → Float → Float → Room → ℕ → ℕ
galvanostatic_return s i dt limit room answer = after_lengths (lengths (length s) dfn_bytes answer dfn_run_bytes) (P.galvanostatic_return s i dt limit room)

unfoldable pub galvanostatic_rows : List ℕ → Float → Float → Float → List Float → List Float → ℕ → List Float
galvanostatic_rows s i dt limit rows lowest answer = cond (lengths (length s) dfn_bytes answer dfn_run_bytes) (P.galvanostatic_rows s i dt limit rows lowest) rows

unfoldable pub galvanostatic_lowest : List ℕ → Float → Float → Float → List Float → List Float → ℕ → List Float
galvanostatic_lowest s i dt limit rows lowest answer = cond (lengths (length s) dfn_bytes answer dfn_run_bytes) (P.galvanostatic_lowest s i dt limit rows lowest) lowest

unfoldable pub galvanostatic_after : List ℕ → Float → Float → Float → Room → List ℕ → List ℕ
galvanostatic_after s i dt limit room a =
    cond (lengths (length s) dfn_bytes (length a) dfn_run_bytes) (P.galvanostatic_after s i dt limit room a) a
