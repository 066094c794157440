-- `row_search::check_search` meets its contract. Assumes nothing.
use Rattle.row_search.specs.Search.{search_refusal}
use Rattle.refusal.specs.Numbers.{first_refusal, refusal_unless}
use borrow.Author.Rules.{rules}
use Rattle.row_search.proofs.check_search.Goals as goal

pub returns-in_err-refuse_unless : goal.returns-in_err-refuse_unless
unfolding search_refusal first_refusal refusal_unless
returns-in_err-refuse_unless c =
    rw (← c.group_count.ensures) (search rules)

pub returns : goal.returns
unfolding search_refusal first_refusal refusal_unless
returns c =
    rw (← c.group_count.ensures) (search rules)
