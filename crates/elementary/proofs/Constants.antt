-- The ranges of the constants: each is between its own value and itself, c below 1420/2048. Assumes nothing.
use mathlib.Core.Bool.{false}
use lib.Ieee.{of_bits}
use Rattle.binary64.specs.Range.{Most, Within}
use Rattle.binary64.proofs.RangeTests.{literal}
use Rattle.binary64.specs.Literals.{«6·0»}
use Rattle.elementary.specs.Exp.{one, scale}
use Rattle.elementary.specs.Ln.{two, ln2, twenty_three}

pub at_1 : Within one 1 1 1 1
unfolding of_bits
at_1 = literal one 1 1 1 1 tt tt tt tt tt

pub at_2 : Within two 2 1 2 1
unfolding of_bits
at_2 = literal two 2 1 2 1 tt tt tt tt tt

pub at_6 : Within «6·0» 6 1 6 1
unfolding of_bits
at_6 = literal «6·0» 6 1 6 1 tt tt tt tt tt

pub at_23 : Within twenty_three 23 1 23 1
unfolding of_bits
at_23 = literal twenty_three 23 1 23 1 tt tt tt tt tt

pub at_1024 : Within scale 1024 1 1024 1
unfolding of_bits
at_1024 = literal scale 1024 1 1024 1 tt tt tt tt tt

pub ln2_most : Most ln2 false 1420 2048
unfolding of_bits
ln2_most = (literal ln2 1420 2048 0 1 tt tt tt tt tt).0
