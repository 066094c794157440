-- `galvanostatic_run::run_rows` meets its contract: the loop makes the turns of the definition, keeps the summary of the rows so far, and leaves as each ending does. Assumes nothing.
use Rattle.std.proofs.Common.{◌≡◌}
use Rattle.runs.specs.Laws.{Going}
use Rattle.runs.specs.Lowest.{summary}
use Rattle.galvanostatic_run.specs.States.{state_of}
use Rattle.galvanostatic_run.specs.Galvanostatic.{over_of, last_row_of, turned}
use Rattle.galvanostatic_run.proofs.run_rows.Given as goal

abbrev pub invariant-loop-i : goal.invariant-loop-i
invariant-loop-i l =
    Going over_of (turned l.w) last_row_of (state_of l.initial.run) l.initial.out l.total l.out (state_of l.run) l.i × ((l.run.rows ≡ l.i) × (l.lowest ≡ summary l.i l.out l.initial.lowest))
