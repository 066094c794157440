-- `decimal_text::nearest::nearest` meets its contract: within both bounds digits and power of ten are exact. Assumes nothing.
use Rattle.std.proofs.Common.{inl, inr, le-leb}
use Rattle.std.proofs.Math.Bool.{and-false}
use borrow.Author.Tests.{lt-leb}
use Rattle.decimal_text.specs.Nearest.{nearest_to}
use Rattle.decimal_text.proofs.Exact.{quotient_is}
use Rattle.decimal_text.proofs.nearest.nearest.Goals as goal

pub returns-then-places-le-PLACES : goal.returns-then-places-le-PLACES
unfolding nearest_to
returns-then-places-le-PLACES c =
    rw (le-leb _ _ c.if-digits-le9007199254740992.true, le-leb _ _ c.if-places-le-PLACES.true, c.power_of_ten.ensures, c.nearest_u64_to_f64.ensures, quotient_is c.args.digits c.args.places c.if-digits-le9007199254740992.true c.if-places-le-PLACES.true)

pub returns : goal.returns
unfolding nearest_to
returns c =
    elim c.else-digits-le9007199254740992.either [
      | inl h ↦ rw (lt-leb _ _ h.1, and-false _)
      | inr h ↦ rw (lt-leb _ _ h)
    ]
