-- `plain_text::solid_end` meets its contract. Assumes nothing.
use Rattle.std.proofs.Common.{◌≡◌}
use Rattle.plain_text.specs.Text.{solid_end}
use Rattle.plain_text.proofs.solid_end.Given as goal

abbrev pub invariant-loop-i : goal.invariant-loop-i
invariant-loop-i l = l.end ≡ solid_end l.i l.s
