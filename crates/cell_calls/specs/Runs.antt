-- What a run of a single-particle cell, the replay of a recorded load or a cycle of phases on it returns, what it leaves in its rows and in its answer, which is written unless
-- the run is refused before its first row. Definitions only.
use Rattle.std.specs.Prelude.{ℕ, cond, List, Float}
use Rattle.refusal.specs.Numbers as N
use Rattle.runs.specs.RunAnswers.{writes_answer}
use Rattle.runs.specs.Lowest.{Room}
use Rattle.solver.specs.declared.SpmSolver.{SpmSolver}
use Rattle.discharge_run.specs.Discharge as S
use Rattle.replay_run.specs.Replay as R
use Rattle.cycle_run.specs.declared.CycleSettings.{CycleSettings}
use Rattle.cycle_run.specs.Cycle as Y
use Rattle.cell_images.specs.Images.{cell_at, put_cell}
use Rattle.image_rows.specs.Written.{put_ending}
use Rattle.cell_calls.specs.Phases.{kinds_fit, phases_at}
use Rattle.image_layout.specs.Layout.{cell_ending}

-- the answer after a run: the cell after it, the ending and the count of rows
unfoldable pub run_written : S.RunOutcome → List ℕ → List ℕ
run_written r a = cond (writes_answer r.ended.refusal r.rows) (put_ending (put_cell a r.solver) cell_ending r.ended.ending r.rows) a

-- ---- a constant current

abbrev discharge : List ℕ → Float → Float → Float → Float → Room → S.RunOutcome
discharge s i dt t limit room = S.discharged (S.run_settings i dt t limit) (cell_at s) room

unfoldable pub discharge_return : List ℕ → Float → Float → Float → Float → Room → ℕ
discharge_return s i dt t limit room = (discharge s i dt t limit room).ended.refusal

unfoldable pub discharge_rows : List ℕ → Float → Float → Float → Float → List Float → List Float → List Float
discharge_rows s i dt t limit rows lowest = S.discharged_rows (S.run_settings i dt t limit) (cell_at s) rows lowest

unfoldable pub discharge_lowest : List ℕ → Float → Float → Float → Float → List Float → List Float → List Float
discharge_lowest s i dt t limit rows lowest = S.discharged_lowest (S.run_settings i dt t limit) (cell_at s) rows lowest

unfoldable pub discharge_after : List ℕ → Float → Float → Float → Float → Room → List ℕ → List ℕ
discharge_after s i dt t limit room a = run_written (discharge s i dt t limit room) a

-- ---- a recorded load

abbrev replay : List ℕ → List ℕ → Float → ℕ → S.RunOutcome
replay s text t places = R.replayed text t (cell_at s) places

unfoldable pub replay_return : List ℕ → List ℕ → Float → ℕ → ℕ
replay_return s text t places = (replay s text t places).ended.refusal

unfoldable pub replay_rows : List ℕ → List ℕ → Float → List Float → List Float
replay_rows s text t l = R.replayed_rows text t (cell_at s) l

unfoldable pub replay_after : List ℕ → List ℕ → Float → ℕ → List ℕ → List ℕ
replay_after s text t places a = run_written (replay s text t places) a

-- ---- a cycle of the phases in an image: a kind that is not listed is 2, in its place among the refusals of the whole cycle

unfoldable pub cycled_from : List ℕ → CycleSettings → SpmSolver → ℕ → S.RunOutcome
cycled_from phases g c places =
    cond (kinds_fit phases g.count) (Y.cycled (phases_at phases) g c places) (S.refused_run (N.first_refusal (Y.counts_refusal g c places) N.sheet) c)

abbrev cycle : List ℕ → List ℕ → CycleSettings → ℕ → S.RunOutcome
cycle s phases g places = cycled_from phases g (cell_at s) places

unfoldable pub cycle_return : List ℕ → List ℕ → CycleSettings → ℕ → ℕ
cycle_return s phases g places = (cycle s phases g places).ended.refusal

unfoldable pub cycle_rows : List ℕ → List ℕ → CycleSettings → List Float → List Float
cycle_rows s phases g l = cond (kinds_fit phases g.count) (Y.cycled_rows (phases_at phases) g (cell_at s) l) l

unfoldable pub cycle_after : List ℕ → List ℕ → CycleSettings → ℕ → List ℕ → List ℕ
cycle_after s phases g places a = run_written (cycle s phases g places) a
