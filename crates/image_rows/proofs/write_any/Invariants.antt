-- `image_rows::write_any` meets its contract: k places are written after k turns. Assumes nothing.
use Rattle.std.proofs.Common.{◌≡◌}
use Rattle.codec.specs.Words.{put_places}
use Rattle.image_rows.proofs.write_any.Given as goal

abbrev pub invariant-loop-i : goal.invariant-loop-i
invariant-loop-i l = l.s ≡ put_places l.i l.initial.s l.at l.c
