-- The two electrodes of a set of parameters, their interfacial area, and an open-circuit potential. Definitions only.
use Rattle.std.specs.Prelude.{ℕ, zero, suc, List, Float}
use Rattle.binary64.specs.Operators.{◌⊕◌, ◌⊗◌, ◌⊘◌}
use Rattle.binary64.specs.Literals.{«0·0», «3·0», «96485·0»}
use Rattle.arrays.specs.Places.{at}
use Rattle.dfn_parameters.specs.declared.DfnParams.{DfnParams}
use Rattle.dfn_parameters.specs.declared.Side.{Side}

abbrev pub anode_of : DfnParams → Side
anode_of p = record {
  l = p.l_neg;
  r = p.r_neg;
  d_s_ref = p.d_s_neg_ref;
  c_s_max = p.c_s_neg_max;
  eps = p.eps_neg;
  theta_0 = p.theta_neg_0;
  k = p.k_neg;
}

abbrev pub cathode_of : DfnParams → Side
cathode_of p = record {
  l = p.l_pos;
  r = p.r_pos;
  d_s_ref = p.d_s_pos_ref;
  c_s_max = p.c_s_pos_max;
  eps = p.eps_pos;
  theta_0 = p.theta_pos_0;
  k = p.k_pos;
}

-- 3 * eps / r
abbrev pub area_of : Side → Float
area_of s = «3·0» ⊗ s.eps ⊘ s.r

-- the constant of Faraday
abbrev pub faraday : Float
faraday = «96485·0»

-- current / (a * l * FARADAY * area)
abbrev pub pore_flux : Side → Float → Float → Float
pore_flux s area current = current ⊘ (area_of s ⊗ s.l ⊗ faraday ⊗ area)

-- Horner's rule from 0.0 over the first k coefficients, the highest power first
unfoldable pub horner : List Float → Float → ℕ → Float
horner c theta zero = «0·0»
horner c theta (suc k) = horner c theta k ⊗ theta ⊕ at c k
