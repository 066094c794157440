-- `runs::turns::run_turns` meets its contract: the loop makes the turns of the definition, and leaves as each ending does. Assumes nothing.
use Rattle.runs.specs.Laws.{Going}
use Rattle.runs.proofs.turns.run_turns.Given as goal

abbrev pub invariant-loop-i : goal.invariant-loop-i
invariant-loop-i g l =
    Going g.T.Turns.over (g.T.Turns.turned l.t) g.T.Turns.row_of (g.T.Turns.see l.initial.run) l.initial.out l.total l.out (g.T.Turns.see l.run) l.i
    × g.T.Turns.ready l.t l.i (g.T.Turns.see l.run)
