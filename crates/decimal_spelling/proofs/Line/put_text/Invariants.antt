-- `decimal_spelling::Line::put_text` meets its contract. Assumes nothing.
use Rattle.std.proofs.Common.{◌≡◌, drop}
use Rattle.decimal_spelling.specs.Spelling.{put_all}
use Rattle.decimal_spelling.proofs.Line.put_text.Given as goal

abbrev pub invariant-loop-b : goal.invariant-loop-b
invariant-loop-b l = put_all l.self (drop l.b-index l.text) ≡ put_all l.initial.self l.text
