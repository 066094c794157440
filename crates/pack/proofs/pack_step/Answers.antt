-- `pack::pack_step` meets its contract: where `check_place` refuses, the answer is that refusal and the cells stay; else the named cell is stepped where it lies. Assumes nothing.
use Rattle.std.proofs.Common.{◌≡◌, ℕ, ◌<◌, ◌≤◌, length, Bool, true, false, ◌&&◌, ltb, leb, [], refl, sym, ap, arith, ne_eqb}
use Rattle.std.proofs.lemmas.List.{get_or_default}
use Rattle.std.proofs.Math.ListN.{set}
use Rattle.std.specs.Float.{nan}
use borrow.Author.Tests.{ltb-true, leb-true}
use Rattle.refusal.specs.Numbers.{first_refusal, refusal_unless, grid, index}
use Rattle.std.proofs.lemmas.Result.{err_from_is_err_and}
use Rattle.refusal.specs.Refusals.{number_of}
use Rattle.pack.specs.Answers.{PackStepped}
use Rattle.pack.specs.Pack.{blank, count_refusal, place_refusal, pack_answer, pack_cells}
use Rattle.pack.proofs.pack_step.Goals as goal

-- an index that is not refused is below the number of cells, of which there are at most 32
within : (n k : ℕ) → place_refusal n k ≡ 0 → (k < n) × (n ≤ 32)
unfolding place_refusal first_refusal refusal_unless count_refusal
within n k = by_tests (ltb k n) (leb 1 n) (leb n 32) refl refl
  where
    by_tests : (a b d : Bool) → ltb k n ≡ a → leb n 32 ≡ d → first_refusal (refusal_unless a index) (refusal_unless (b && d) grid) ≡ 0 → (k < n) × (n ≤ 32)
    by_tests true true true e f h = (ltb-true k n e, leb-true n 32 f)
    by_tests true true false e f h = absurd (omega (arith, h))
    by_tests true false d e f h = absurd (omega (arith, h))
    by_tests false b d e f h = absurd (omega (arith, h))

pub returns-in_err-check_place : goal.returns-in_err-check_place
unfolding pack_answer pack_cells
returns-in_err-check_place c =
    let e = c.in_err-check_place.field-0.0 in
    let x = err_from_is_err_and c.from_residual.result c.from_residual.ensures.1 in
    let some = ne_eqb (number_of e) 0 (λ (z : number_of e ≡ 0). cc) in
    (rw (x.1, x.2, ← c.in_err-check_place.ensures, some), rw (← c.in_err-check_place.ensures, some))

pub offset_bounds-cells-index : goal.offset_bounds-cells-index
offset_bounds-cells-index c =
    let w : (c.args.index < length c.args.cells.now) × (length c.args.cells.now ≤ 32) = within _ _ (sym c.in_ok-check_place.ensures) in omega arith

pub bounds-cells-index : goal.bounds-cells-index
bounds-cells-index c = (within _ _ (sym c.in_ok-check_place.ensures)).0

pub returns : goal.returns
unfolding pack_answer pack_cells
returns c =
    let xs = c.args.cells.now in
    let w : (c.args.index < length xs) × (length xs ≤ 32) = within _ _ (sym c.in_ok-check_place.ensures) in
    let e = get_or_default xs c.args.index blank (record { c_neg = []; c_pos = []; time_s = nan }) w.0 in (
      rw (← c.in_ok-check_place.ensures, e) (ap (λ (y : PackStepped). y.reported) c.step_in_place.ensures),
      rw (← c.in_ok-check_place.ensures, e) (ap (λ (y : PackStepped). set xs c.args.index y.cell) c.step_in_place.ensures),
    )
