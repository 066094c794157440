-- `row_search::first_below` meets its contract: after g groups, none of their rows is a hit. Assumes nothing.
use Rattle.std.proofs.Common.{refl, sym, arith, rules}
use Rattle.row_search.specs.Search.{under, searched}
use Rattle.row_search.specs.GroupSearch.{clear_through, clear_found, clear_end, group_ends, group_starts, groups_over, search_room}
use Rattle.row_search.proofs.first_below.Invariants.{looked}
use Rattle.row_search.proofs.first_below.Goals as goal

pub returns-in_err-check_search : goal.returns-in_err-check_search
unfolding searched
returns-in_err-check_search c =
    rw (← c.in_err-check_search.ensures) (search rules)

pub overflow_mul-start : goal.overflow_mul-start
overflow_mul-start c =
    omega (arith, group_starts _ _ _ c.group_count-g-end.ensures c.loop-g-test.true)

pub group_end-end-requires : goal.group_end-end-requires
group_end-end-requires c =
    group_starts _ _ _ c.group_count-g-end.ensures c.loop-g-test.true

pub offset_bounds-lowest-g : goal.offset_bounds-lowest-g
offset_bounds-lowest-g c =
    omega (arith, group_starts _ _ _ c.group_count-g-end.ensures c.loop-g-test.true)

pub bounds-lowest-g : goal.bounds-lowest-g
bounds-lowest-g c =
    let room = search_room _ _ _ _ _ _ c.in_ok-check_search.ensures refl in
    let taken = rw c.group_count-g-end.ensures at c.loop-g-test.true in
    omega (arith, taken, room.1)

pub group_row-requires : goal.group_row-requires
group_row-requires c =
    let room = search_room _ _ _ _ _ _ c.in_ok-check_search.ensures refl in
    let ends = group_ends _ _ _ (group_starts _ _ _ c.group_count-g-end.ensures c.loop-g-test.true) c.group_end-end.ensures in
    (ends.starts, omega (arith, ends.within, room.0))

pub returns-in-Some : goal.returns-in-Some
unfolding searched
returns-in-Some c =
    let args = c.args in
    let ends = group_ends _ _ _ (group_starts _ _ _ c.group_count-g-end.ensures c.loop-g-test.true) c.group_end-end.ensures in
    rw (← c.in_ok-check_search.ensures)
    (sym (clear_found (looked args.lowest.now args.voltage) (under args.rows.now args.voltage) _ _ c.loop-g.invariant _ _ ends c.in-Some.ensures.0 c.in-Some.ensures.1))

pub loop-g-preserved : goal.loop-g-preserved
loop-g-preserved c =
    let args = c.args in
    let ends = group_ends _ _ _ (group_starts _ _ _ c.group_count-g-end.ensures c.loop-g-test.true) c.group_end-end.ensures in
    clear_through (looked args.lowest.now args.voltage) (under args.rows.now args.voltage) _ _ c.loop-g.invariant _ _ ends c.in_default.ensures (omega arith)

pub returns : goal.returns
unfolding searched
returns c =
    let args = c.args in
    rw (← c.in_ok-check_search.ensures)
    (sym (clear_end (looked args.lowest.now args.voltage) (under args.rows.now args.voltage) _ _ c.loop-g.invariant (groups_over _ _ _ c.group_count-g-end.ensures c.loop-g-test.false)))
