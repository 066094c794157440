-- `dfn_places::counts::FitConfig::new` meets its contract: counts that passed are in their limits. Assumes nothing.
use Rattle.std.proofs.Common.{◌&&◌, T, sym, zero-lt-suc}
use lib.Ieee.Fits.{and_l, and_r}
use Rattle.refusal.specs.Numbers.{grid, passed}
use Rattle.refusal.specs.Ranges.{count_in_range}
use Rattle.refusal.specs.RangeLaws.{count_between}
use Rattle.dfn_parameters.specs.Ranges.{grid_fits}
use Rattle.dfn_places.proofs.counts.FitConfig.new.Goals as goal

pub invariant_of-result : goal.invariant_of-result
invariant_of-result c =
    let g = c.args.config in
    let a = count_in_range g.n_x_neg 1 16 in
    let b = count_in_range g.n_x_pos 1 16 in
    let d = count_in_range g.n_r 2 32 in
    let t : T (grid_fits g) = rw c.grid_fits.ensures at (passed _ grid (zero-lt-suc 0) (sym c.in_ok-refuse_unless.ensures)) in
    record {
      anode = count_between g.n_x_neg 1 16 (and_l a b (and_l (a && b) d t));
      cathode = count_between g.n_x_pos 1 16 (and_r a b (and_l (a && b) d t));
      radius = count_between g.n_r 2 32 (and_r (a && b) d t);
    }
