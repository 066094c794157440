-- `cell_file::missing` meets its contract. Assumes nothing.
use Rattle.std.proofs.Common.{sym, ◌∙◌, eq-eqb, ne_eqb}
use Rattle.cell_file.proofs.Lines.{missing_turn, missing_over}
use Rattle.cell_file.proofs.missing.Goals.{else-row-ne-T_REF-via-then-row-ne-T_REF+else-given-index-eq0, else-row-ne-T_REF-via-else-row-ne-T_REF}
use Rattle.cell_file.proofs.missing.Goals as goal

pub returns-then-given-index-eq0 : goal.returns-then-given-index-eq0
returns-then-given-index-eq0 c =
    let g = c.args.given.now in
    let row = rw c.at-place.ensures at c.row.ensures.0 in
    record {
      place = c.at-place.ensures ∙ rw (c.loop-index.invariant, missing_turn c.loop-index.index g c.loop-index-test.true, ← row, ne_eqb _ _ c.if-row-ne-T_REF.true, eq-eqb _ _ c.if-given-index-eq0.true);
      within = rw c.at-place.ensures c.loop-index-test.true;
    }

pub loop-index-preserved : goal.loop-index-preserved
loop-index-preserved c =
    let g = c.args.given.now in
    let row = rw c.at-place.ensures at c.row.ensures.0 in
    c.loop-index.invariant ∙ missing_turn c.loop-index.index g c.loop-index-test.true ∙ elim c.else-row-ne-T_REF.branch [
      | else-row-ne-T_REF-via-then-row-ne-T_REF+else-given-index-eq0 w ↦ rw (← row, ne_eqb _ _ w.if-row-ne-T_REF.true, ne_eqb _ _ w.if-given-index-eq0.false)
      | else-row-ne-T_REF-via-else-row-ne-T_REF w ↦ rw (← row, eq-eqb _ _ w.if-row-ne-T_REF.false)
    ]

pub returns : goal.returns
returns c = record {
  place = sym (c.loop-index.invariant ∙ missing_over c.loop-index.index c.args.given.now c.loop-index-test.false);
  within = tt;
}
