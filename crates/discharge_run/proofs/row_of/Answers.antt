-- `discharge_run::row_of` meets its contract. Assumes nothing.
use Rattle.std.proofs.Common.{Bool, true, false, cond, ◌≡◌, refl, pos}
use Rattle.std.specs.Float.Ieee as Ieee
use Rattle.std.specs.Float.{binary64}
use Rattle.std.specs.Int.{from_bool}
use Rattle.binary64.specs.Literals.{«0·0», «1·0»}
use Rattle.discharge_run.specs.Discharge.{row_of}
use Rattle.discharge_run.proofs.row_of.Goals as goal

-- the library's number of a flag
flag_is : (b : Bool) → Ieee.of_int binary64 (pos (from_bool b)) ≡ cond b «1·0» «0·0»
unfolding Ieee.of_bits Ieee.of_int
flag_is true = refl
flag_is false = refl

pub returns : goal.returns
unfolding row_of
returns c =
    rw (c.from.ensures, flag_is c.args.s.cutoff)
