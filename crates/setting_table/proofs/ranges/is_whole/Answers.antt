-- `setting_table::ranges::is_whole` meets its contract. Assumes nothing.
use Rattle.setting_table.specs.Ranges.{is_whole}
use Rattle.setting_table.proofs.ranges.is_whole.Goals as goal

pub returns : goal.returns
unfolding is_whole
returns c =
    rw (c.nearest_u64_to_f64.ensures, c.ceil_count.ensures)
