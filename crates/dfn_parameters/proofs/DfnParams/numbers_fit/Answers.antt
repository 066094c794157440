-- `dfn_parameters::DfnParams::numbers_fit` meets its contract. Assumes nothing.
use Rattle.dfn_parameters.proofs.DfnParams.numbers_fit.Goals as goal

pub returns : goal.returns
returns c =
    rw (
      c.temperature_fits.ensures,
      c.within-10.ensures,
      c.within-9.ensures,
      c.within-8.ensures,
      c.within-7.ensures,
      c.within-6.ensures,
      c.within-5.ensures,
      c.within-4.ensures,
      c.within-3.ensures,
      c.within-2.ensures,
      c.within.ensures,
      c.fits-2.ensures,
      c.cathode.ensures,
      c.fits.ensures,
      c.anode.ensures,
    )
