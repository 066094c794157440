-- A sheet whose reference temperature is 298.15 K has the earlier test, of nine numbers, and the earlier diffusivity. Assumes nothing.
use Rattle.std.specs.Prelude.{◌≡◌, Bool, Float, take}
use Rattle.std.proofs.Math.Bool.{and-true}
use Rattle.std.specs.Float.Ieee.{le, of_bits}
use Rattle.binary64.specs.Operators.{◌⊗◌}
use Rattle.binary64.specs.Literals.{«298·15»}
use Rattle.elementary.specs.Arrhenius.{arrhenius_of}
use Rattle.refusal.specs.Ranges.{in_ranges}
use Rattle.electrode.specs.declared.ElectrodeParams.{ElectrodeParams}
use Rattle.electrode.specs.Sheet.{chemistry_fits, sheet_rows, sheet_fits, diffusivity_at}

-- the test before there was a tenth number
abbrev pub nine_fit : ElectrodeParams → Bool
nine_fit p = in_ranges (chemistry_fits p.electrode_type) (take 9 (sheet_rows p))

-- the diffusivity by the fixed 298.15 K
abbrev pub diffusivity_from298 : ElectrodeParams → Float → Float
diffusivity_from298 p t = p.d_s_ref ⊗ arrhenius_of p.e_a_ds «298·15» t

module _ (p : ElectrodeParams) (h : p.t_ref ≡ «298·15») where
  pub fits_kept : sheet_fits p ≡ nine_fit p
  unfolding le of_bits
  fits_kept = rw (h) (and-true (nine_fit p))

  pub diffusivity_kept : (t : Float) → diffusivity_at p t ≡ diffusivity_from298 p t
  unfolding diffusivity_at
  diffusivity_kept t = rw (h)
