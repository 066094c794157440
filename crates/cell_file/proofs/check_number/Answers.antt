-- `cell_file::check_number` meets its contract. Assumes nothing.
use Rattle.cell_file.specs.Settings.{number_fault}
use Rattle.cell_file.proofs.check_number.Goals as goal

pub returns-then-not-in_range : goal.returns-then-not-in_range
unfolding number_fault
returns-then-not-in_range c =
    rw (← c.in_range.ensures, c.if-not-in_range.true)

pub returns-then-is_count-is_whole : goal.returns-then-is_count-is_whole
unfolding number_fault
returns-then-is_count-is_whole c =
    let is_whole = c.is_whole in
    let is-count = c.is_count in
    let if1 = c.if-not-in_range in
    let in_range_lem = c.in_range in
    rw (← in_range_lem.ensures, if1.false, ← is-count.ensures, ← is_whole.ensures, c.if-is_count-is_whole.true)

pub returns : goal.returns
unfolding number_fault
returns c =
    let is_whole = c.is_whole in
    let is-count = c.is_count in
    let if1 = c.if-not-in_range in
    let in_range_lem = c.in_range in
    rw (← in_range_lem.ensures, if1.false, ← is-count.ensures, ← is_whole.ensures, c.if-is_count-is_whole.false)
