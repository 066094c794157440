-- `decimal_spelling::parts_of` meets its contract. Assumes nothing.
use borrow.Author.Rules.{rules}
use borrow.Author.Tests.{eq-eqb, ne_eqb}
use Rattle.decimal_spelling.specs.Spelling.{parts_of}
use Rattle.decimal_spelling.proofs.parts_of.Goals as goal

pub returns-then-exponent-eq0 : goal.returns-then-exponent-eq0
unfolding parts_of
returns-then-exponent-eq0 c =
    (rw (eq-eqb _ _ c.if-exponent-eq0.true), search rules)

pub returns : goal.returns
unfolding parts_of
returns c =
    (rw (ne_eqb _ _ c.if-exponent-eq0.false), search rules)
