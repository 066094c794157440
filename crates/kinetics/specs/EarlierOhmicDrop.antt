-- The terminal voltage with the drop in the electrolyte times the sign of the current, as it was before charge rows had the ohmic rise: at a current whose sign is not negative it is
-- the terminal voltage. Assumes nothing.
use Rattle.std.specs.Prelude.{◌≡◌, refl, cond, Float}
use Rattle.std.specs.Float.{nan}
use Rattle.std.specs.Float.Ieee.{neg, is_nan, of_bits}
use Rattle.binary64.specs.Operators.{◌⊕◌, ◌⊖◌, ◌⊗◌, negative}
use Rattle.binary64.specs.Literals.{«0·0», «1·0»}

-- 1 with the sign of x
abbrev pub signum_of : Float → Float
signum_of x = cond (is_nan x) nan (cond (negative x) (neg «1·0») «1·0»)

pub signum_zero : (signum_of «0·0» ≡ «1·0») × (signum_of (neg «0·0») ≡ neg «1·0»)
unfolding is_nan neg of_bits
signum_zero = (refl, refl)

-- (u_pos + eta_pos) - (u_neg + eta_neg) - v_ohm * signum(I)
abbrev pub voltage_by_signum : Float → Float → Float → Float → Float → Float → Float
voltage_by_signum u_neg u_pos eta_neg eta_pos v_ohm i = (u_pos ⊕ eta_pos) ⊖ (u_neg ⊕ eta_neg) ⊖ v_ohm ⊗ signum_of i
