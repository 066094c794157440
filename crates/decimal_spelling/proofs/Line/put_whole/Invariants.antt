-- `decimal_spelling::Line::put_whole` meets its contract. Assumes nothing.
use Rattle.std.proofs.Common.{◌≡◌}
use Rattle.decimal_spelling.specs.Spelling.{put_all, whole_text}
use Rattle.decimal_spelling.proofs.Line.put_whole.Given as goal

abbrev pub invariant-loop-k : goal.invariant-loop-k
invariant-loop-k l = put_all l.self (whole_text l.k l.n) ≡ put_all l.initial.self (whole_text 20 l.n)
