-- `dfn_parameters::DfnParams::check` meets its contract: a set that passed has few coefficients. Assumes nothing.
use Rattle.std.proofs.Common.{ℕ, ◌≤◌, ◌&&◌, T, List, sym, ◌∙◌, zero-lt-suc, leb→le}
use Rattle.std.proofs.lemmas.Result.{err_from_is_err_and}
use lib.Ieee.{Float}
use lib.Ieee.Fits.{and_l, and_r}
use Rattle.refusal.specs.Numbers.{sheet, passed}
use Rattle.refusal.specs.EqualParts.{◌both◌, equal_unless}
use Rattle.dfn_parameters.specs.Ranges.{coefficients_fit, parameters_fit}
use Rattle.dfn_parameters.proofs.DfnParams.check.Goals as goal

few : (c : List Float) (n : ℕ) → T (coefficients_fit c n) → n ≤ 16
unfolding coefficients_fit
few c n t = leb→le n 16 (and_r _ _ t)

pub returns-in_err-refuse_unless-clause-refused : goal.returns-in_err-refuse_unless-clause-refused
unfolding parameters_fit
returns-in_err-refuse_unless-clause-refused c =
    let p = err_from_is_err_and c.from_residual.result c.from_residual.ensures.1 in
    rw (p.1, p.2) (c.in_err-refuse_unless.ensures ∙ equal_unless sheet (c.numbers_fit.ensures both c.coefficients_fit.ensures both c.coefficients_fit-2.ensures))

pub invariant_of-result : goal.invariant_of-result
invariant_of-result c =
    let a = c.numbers_fit.result in
    let b = c.coefficients_fit.result in
    let d = c.coefficients_fit-2.result in
    let t : T (a && b && d) = passed (a && b && d) sheet (zero-lt-suc 1) (sym (c.in_ok-refuse_unless.ensures)) in
    let s = c.args.self in
    record {
      few = (
        few s.ocv_neg_coeffs s.ocv_neg_count (rw c.coefficients_fit.ensures at (and_r a b (and_l (a && b) d t))),
        few s.ocv_pos_coeffs s.ocv_pos_count (rw c.coefficients_fit-2.ensures at (and_r (a && b) d t)),
      );
    }

pub returns-clause-refused : goal.returns-clause-refused
unfolding parameters_fit
returns-clause-refused c =
    c.in_ok-refuse_unless.ensures ∙ equal_unless sheet (c.numbers_fit.ensures both c.coefficients_fit.ensures both c.coefficients_fit-2.ensures)
