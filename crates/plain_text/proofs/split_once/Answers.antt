-- `plain_text::split_once` meets its contract. Assumes nothing.
use Rattle.std.proofs.Common.{◌+◌, refl, eqb, rules, tests, add-one}
use Rattle.std.proofs.lemmas.Iterator.{YieldsList-from_slice}
use Rattle.std.proofs.lemmas.Iterator.Search.{position_from_yields_List}
use Rattle.plain_text.specs.Text.{index_of}
use Rattle.plain_text.specs.Pieces.{rest_is}
use Rattle.plain_text.proofs.Ahead.{index_found, index_missed}
use Rattle.plain_text.proofs.split_once.Goals as goal

pub returns-in_err-at : goal.returns-in_err-at
returns-in_err-at c =
    let found = position_from_yields_List (λ x. eqb x c.args.b) _ _ c.position.result c.position.ensures.ran (YieldsList-from_slice c.args.s.now cc) (λ x b q k. search (rules, tests)) in
    rw c.from_residual.ensures (index_missed c.args.b c.args.s.now _ found c.in_err-at.was)

pub returns : goal.returns
returns c =
    let s = c.args.s.now in
    let found = position_from_yields_List (λ x. eqb x c.args.b) _ _ c.position.result c.position.ensures.ran (YieldsList-from_slice s cc) (λ x b q k. search (rules, tests)) in
    let h = index_found c.args.b s _ found c.in_ok-at.at c.in_ok-at.was in
    rw h.1 (h.0, refl, rw (rest_is (index_of c.args.b s + 1) s, add-one))
