-- `ceil_count` meets its contract. Assumes nothing.
use Rattle.std.proofs.Common.{T, sym, subst}
use Rattle.min_max.proofs.CountLaws.{Counted, CountedBy, counted}
use Rattle.min_max.proofs.ceil_count.Goals as goal

pub returns-then-nearest_u64_to_f64-q : goal.returns-then-nearest_u64_to_f64-q
returns-then-nearest_u64_to_f64-q c =
    rw c.saturating_add.ensures ((subst (Counted c.args.q c.saturating_f64_to_u64-whole.result) (sym c.nearest_u64_to_f64.ensures)
    (subst (CountedBy c.args.q) (sym c.saturating_f64_to_u64-whole.ensures) (counted c.args.q (subst T (sym c.well_formed.0.1) tt)))).next c.if-nearest_u64_to_f64-q.true)

pub returns-else-nearest_u64_to_f64-q : goal.returns-else-nearest_u64_to_f64-q
returns-else-nearest_u64_to_f64-q c =
    (subst (Counted c.args.q c.saturating_f64_to_u64-whole.result) (sym c.nearest_u64_to_f64.ensures)
    (subst (CountedBy c.args.q) (sym c.saturating_f64_to_u64-whole.ensures) (counted c.args.q (subst T (sym c.well_formed.0.1) tt)))).same c.if-nearest_u64_to_f64-q.false
