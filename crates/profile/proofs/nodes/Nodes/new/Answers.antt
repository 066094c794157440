-- `profile::nodes::Nodes::new` meets its contract: a count that passed is in its range. Assumes nothing.
use Rattle.std.specs.Prelude.{◌≡◌}
use Rattle.std.proofs.Common.{sym, ◌∙◌, zero-lt-suc}
use Rattle.refusal.specs.Numbers.{grid, passed}
use Rattle.refusal.specs.Refusals.{refusal_of}
use Rattle.refusal.specs.RangeLaws.{count_between}
use Rattle.profile.proofs.nodes.Nodes.new.Goals as goal

pub invariant_of-result : goal.invariant_of-result
invariant_of-result c =
    let none : refusal_of c.refuse_unless.result ≡ 0 = rw c.in_ok-refuse_unless.was in
    count_between c.args.count 3 64 (rw c.count_within.ensures at (passed _ grid (zero-lt-suc 0) (sym c.refuse_unless.ensures ∙ none)))
