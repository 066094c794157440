-- `cell_file::Settings::take_lines` meets its contract. Assumes nothing.
use Rattle.std.proofs.Common.{◌≡◌, ◌+◌, ◌≤◌, length}
use Rattle.plain_text.specs.Text.{lines_of}
use Rattle.cell_file.specs.Settings.{lines_taken}
use Rattle.cell_file.specs.Answers.{settings_of}
use Rattle.cell_file.proofs.Settings.take_lines.Given as goal

abbrev pub invariant-loop-first : goal.invariant-loop-first
invariant-loop-first l = (l.line + length l.rest ≤ 4096) × (lines_taken (settings_of l.self) l.line (lines_of l.rest) ≡ lines_taken (settings_of l.initial.self) 1 (lines_of l.s))

abbrev pub decreases-loop-first : goal.decreases-loop-first
decreases-loop-first l = length l.rest
