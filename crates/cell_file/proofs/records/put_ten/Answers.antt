-- `cell_file::records::put_ten` meets its contract: after i turns the first i numbers are there. Assumes nothing.
use Rattle.std.proofs.Common.{◌≡◌, refl, add-one, arith, rules}
use Rattle.cell_file.specs.Records.{put_by}
use Rattle.cell_file.proofs.records.put_ten.Goals as goal

pub loop-i-init : goal.loop-i-init
unfolding put_by
loop-i-init c =
    (search rules, refl)

pub loop-i-preserved : goal.loop-i-preserved
unfolding put_by
loop-i-preserved c =
    (search rules, rw (add-one c.loop-i.i, c.loop-i.invariant.1))

pub returns : goal.returns
returns c =
    let e : c.loop-i.i ≡ 10 = omega arith in rw e at c.loop-i.invariant.1
