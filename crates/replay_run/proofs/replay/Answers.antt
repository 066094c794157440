-- `replay_run::replay` meets its contract: a replay that is refused changes nothing, any other makes its turns. Assumes nothing.
use Rattle.std.proofs.Common.{ap, ◌∙◌, arith}
use Rattle.std.proofs.Math.Dec.{eqb-suc-zero}
use Rattle.replay_run.specs.Answers.{ReplayState}
use Rattle.replay_run.specs.Replay.{started, finished_replay, all_turns, all_rows, replayed, replayed_rows}
use Rattle.replay_run.proofs.replay.Goals as goal

pub returns-in-Err : goal.returns-in-Err
unfolding replayed replayed_rows
returns-in-Err c =
    record { result = rw (← c.in-Err.ensures, eqb-suc-zero); rows = rw (← c.in-Err.ensures, eqb-suc-zero) }

pub run_turns-requires : goal.run_turns-requires
unfolding started
run_turns-requires c =
    record { ready = ap (λ (r : ReplayState). r.rows) c.start-run.ensures; room = (omega arith, omega arith) }

pub returns : goal.returns
unfolding replayed replayed_rows all_turns all_rows finished_replay
returns c =
    let u = c.run_turns.ensures in
    record {
      result = rw (← c.in_default.ensures, ← c.start-run.ensures) (c.finished.ensures ∙ ap finished_replay u.state);
      rows = rw (← c.in_default.ensures, ← c.start-run.ensures) u.rows;
    }
