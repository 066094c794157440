-- `replay_run::lines::hex_word` meets its contract: after k turns, k digits are read. Assumes nothing.
use Rattle.std.proofs.Common.{◌≡◌}
use Rattle.replay_run.specs.Lines.{digits_at, number_at}
use Rattle.replay_run.proofs.lines.hex_word.Given as goal

abbrev pub invariant-loop-b : goal.invariant-loop-b
invariant-loop-b l = (l.digits ≡ digits_at l.text l.a l.b-index) × (l.bits ≡ number_at l.text l.a l.b-index)
