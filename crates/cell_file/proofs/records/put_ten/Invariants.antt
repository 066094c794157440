-- `cell_file::records::put_ten` meets its contract: after i turns the first i numbers are there. Assumes nothing.
use Rattle.std.proofs.Common.{◌≡◌, ◌-◌, ◌≤◌}
use Rattle.cell_file.specs.Records.{put_by}
use Rattle.cell_file.proofs.records.put_ten.Given as goal

abbrev pub invariant-loop-i : goal.invariant-loop-i
invariant-loop-i l = (l.i ≤ 10) × (l.all ≡ put_by l.i l.base l.x l.initial.all)

abbrev pub decreases-loop-i : goal.decreases-loop-i
decreases-loop-i l = 10 - l.i
