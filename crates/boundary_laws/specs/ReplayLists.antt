-- Replays of C, `pj_replay`: as a run, one that returns 0 or has written a row hands on the cell after its finished rows; a text that is too long is refused whatever the lengths. That a replay implements its
-- definition stands in proofs/ReplayLists. Definitions only.
use Rattle.std.specs.Prelude.{ℕ, not, ◌&&◌, ◌||◌, List, eqb, length, Float}
use Rattle.runs.specs.RunAnswers.{writes_answer}
use Rattle.solver.specs.declared.SpmSolver.{SpmSolver}
use Rattle.discharge_run.specs.Discharge.{RunOutcome}
use Rattle.replay_run.specs.Replay as R
use Rattle.cell_images.specs.Images.{cell_at}
use Rattle.boundary.specs.Calls as B
use Rattle.boundary.specs.Runs as BR
use Rattle.boundary_laws.specs.CallLists.{Calls}
use Rattle.image_layout.specs.Layout.{cell_bytes, cell_run_bytes}

-- ---- replays: the rows that are lent count only by their number of places
pub record CellReplay : Type 0 where
  pub text : List ℕ
  pub temp : Float
  pub places : ℕ

-- what a replay gives
abbrev pub replay : SpmSolver → CellReplay → RunOutcome
replay c q = R.replayed q.text q.temp c q.places

-- the text's length is tested before that of the answer
abbrev pub cell_replays : Calls cell_bytes cell_at CellReplay
cell_replays = record {
  formed = λ q a. not (R.text_fits q.text) || eqb (length a) cell_run_bytes;
  returned = λ s q a. BR.replay_return s q.text q.temp q.places (length a);
  left = λ s q a. BR.replay_after s q.text q.temp q.places a;
  handed = λ s q a.
      R.text_fits q.text && B.lengths (length s) cell_bytes (length a) cell_run_bytes && writes_answer (replay (cell_at s) q).ended.refusal (replay (cell_at s) q).rows;
  refusal = λ c q. (replay c q).ended.refusal;
  next = λ c q. (replay c q).solver;
}
