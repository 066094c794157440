-- `replay_run::finished` meets its contract. Assumes nothing.
use Rattle.runs.specs.Endings.{ending_is}
use Rattle.replay_run.specs.Replay.{finished_replay}
use Rattle.replay_run.proofs.finished.Goals as goal

pub returns : goal.returns
unfolding finished_replay
returns c =
    rw (ending_is c.args.s.ending)
