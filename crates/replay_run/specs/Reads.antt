-- What the code reads of a text: a digit, a word or a line where there is one. Definitions only.
use Rattle.std.specs.Prelude.{ℕ, cond, Option, Some, None, Result, Ok, Err}
use Rattle.replay_run.specs.declared.lines.LoadLine.{LoadLine as Numbers}
use Rattle.replay_run.specs.Answers.{LoadLine}
use Rattle.replay_run.specs.Lines.{is_digit, digit_of}

unfoldable pub digit_read : ℕ → Option ℕ
digit_read b = cond (is_digit b) (Some (digit_of b)) None

-- the word that is read, refused or not
abbrev pub word_of : Result ℕ ℕ → ℕ
word_of (Ok w) = w
word_of (Err w) = w

unfoldable pub line_read : LoadLine → Option Numbers
line_read w = cond w.well_formed (Some (record { dt = w.dt; current_a = w.current_a })) None
