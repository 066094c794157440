-- Powers: of any exponent by E and L, for 0.5 too, and the whole ones 2, 3 and 4 by products. Definitions only.
use Rattle.std.specs.Prelude.{Float}
use Rattle.binary64.specs.Operators.{◌⊗◌}
use Rattle.elementary.specs.Exp.{exp_of}
use Rattle.elementary.specs.Ln.{ln_of}

-- x to the power b. For an x that is not above zero, which no caller has, it is what L gives.
unfoldable pub powf_of : Float → Float → Float
powf_of x b = exp_of (b ⊗ ln_of x)

abbrev pub square_of : Float → Float
square_of x = x ⊗ x

abbrev pub cube_of : Float → Float
cube_of x = x ⊗ (x ⊗ x)

abbrev pub fourth_of : Float → Float
fourth_of x = (x ⊗ x) ⊗ (x ⊗ x)
