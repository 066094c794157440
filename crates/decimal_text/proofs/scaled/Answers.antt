-- `decimal_text::scaled` meets its contract. Assumes nothing.
use Rattle.std.proofs.Common.{◌+◌, ◌∙◌, arith}
use Rattle.decimal_text.specs.DecimalText.{scaled_by}
use Rattle.decimal_text.proofs.Cut.{nearest_long, scaled_places, scaled_raised}
use Rattle.decimal_text.proofs.scaled.Goals as goal

pub returns-then-places-gt22 : goal.returns-then-places-gt22
unfolding scaled_by
returns-then-places-gt22 c = rw c.if-down.true (nearest_long c.args.digits (c.args.places + c.args.exponent) (omega arith))

pub returns-then-down : goal.returns-then-down
unfolding scaled_by
returns-then-down c = rw c.if-down.true c.nearest.ensures

pub returns-then-exponent-places : goal.returns-then-exponent-places
returns-then-exponent-places c =
    rw c.if-down.false (c.nearest-then-exponent-places.ensures ∙ scaled_places c.args.digits c.args.places c.args.exponent (omega arith))

pub returns : goal.returns
returns c =
    rw c.if-down.false (c.nearest-2.ensures ∙ rw (c.saturating_mul.ensures, c.saturating_pow-power.ensures) (scaled_raised c.args.digits c.args.places c.args.exponent c.if-exponent-places.false))
