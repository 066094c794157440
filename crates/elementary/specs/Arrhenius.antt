-- The Arrhenius factor E((e_a / R) * (1 / t_ref - 1 / t)), by which a diffusivity or a conductivity goes from the temperature t_ref to t. Definitions only.
use Rattle.std.specs.Prelude.{Float}
use Rattle.binary64.specs.Operators.{◌⊖◌, ◌⊗◌, ◌⊘◌}
use Rattle.binary64.specs.Literals.{«8·314»}
use Rattle.elementary.specs.Exp.{one, exp_of}

-- R, 8.314
abbrev pub gas_constant : Float
gas_constant = «8·314»

abbrev pub arrhenius_of : Float → Float → Float → Float
arrhenius_of e-a t-ref t = exp_of ((e-a ⊘ gas_constant) ⊗ ((one ⊘ t-ref) ⊖ (one ⊘ t)))
