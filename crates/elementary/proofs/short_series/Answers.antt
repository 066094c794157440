-- `short_series` meets its contract. Assumes nothing.
use lib.Dec.{lit≤}
use Rattle.elementary.proofs.LastTermsLaws.{last_terms_meet}
use Rattle.elementary.proofs.short_series.Goals as goal

pub series_from_last-requires : goal.series_from_last-requires
series_from_last-requires c =
    last_terms_meet 6 _ c.last_terms.result c.last_terms.ensures (lit≤ tt) c.if-y.true

pub series_from_last-requires-then-y-3 : goal.series_from_last-requires-then-y-3
series_from_last-requires-then-y-3 c =
    last_terms_meet 8 _ c.last_terms-then-y-3.result c.last_terms-then-y-3.ensures (lit≤ tt) c.if-y.true

pub series_from_last-requires-then-y : goal.series_from_last-requires-then-y
series_from_last-requires-then-y c =
    last_terms_meet 12 _ c.last_terms-then-y.result c.last_terms-then-y.ensures (lit≤ tt) c.if-y.true
