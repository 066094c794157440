-- The state: parameters, three regions and the profile. Its ranges, the mean, the largest stable interval, what a step works with. Definitions only.
use Rattle.std.specs.Prelude.{ℕ, ◌+◌, Bool, ◌&&◌, List, Float}
use Rattle.binary64.specs.Operators.{◌⊖◌, ◌⊗◌, ◌⊘◌, count}
use Rattle.binary64.specs.Literals.{«0·0», «1e-7», «0·01», «0·5», «1·0»}
use Rattle.elementary.specs.Exp.{one}
use Rattle.min_max.specs.MinMax.{min_of}
use Rattle.refusal.specs.Ranges.{in_range, count_in_range}
use Rattle.electrolyte_parameters.specs.declared.ElectrolyteParams.{ElectrolyteParams}
use Rattle.electrolyte_parameters.specs.Params.{diffusivity_eff}
use Rattle.electrolyte_profile.specs.declared.Region.{Region}
use Rattle.electrolyte_profile.specs.declared.ElectrolyteStepParams.{ElectrolyteStepParams}
use Rattle.electrolyte_profile.specs.Places.{zeros, sum_of}
use Rattle.electrolyte.specs.declared.ElectrolyteState.{ElectrolyteState}

-- how many nodes there are, and so how many places are used
abbrev pub total : ElectrolyteState → ℕ
total e = e.n_neg + e.n_sep + e.n_pos

-- ---- ranges
-- 1 to 32 nodes a region
abbrev pub counts_fit : ElectrolyteState → Bool
counts_fit e = count_in_range e.n_neg 1 32 && count_in_range e.n_sep 1 32 && count_in_range e.n_pos 1 32

-- lengths 1e-7 to 1e-2, porosities 0.01 to 1
abbrev pub regions_fit : ElectrolyteState → Bool
regions_fit e =
    in_range e.l_neg «1e-7» «0·01»
    && in_range e.l_sep «1e-7» «0·01»
    && in_range e.l_pos «1e-7» «0·01»
    && in_range e.eps_neg «0·01» «1·0»
    && in_range e.eps_sep «0·01» «1·0»
    && in_range e.eps_pos «0·01» «1·0»

-- ---- states
-- what a build is given, with no node filled yet
abbrev pub unfilled : ElectrolyteParams → Float → Float → Float → Float → Float → Float → ℕ → ℕ → ℕ → ElectrolyteState
unfilled p l_neg l_sep l_pos eps_neg eps_sep eps_pos n_neg n_sep n_pos = record {
  params = p;
  l_neg = l_neg;
  l_sep = l_sep;
  l_pos = l_pos;
  eps_neg = eps_neg;
  eps_sep = eps_sep;
  eps_pos = eps_pos;
  n_neg = n_neg;
  n_sep = n_sep;
  n_pos = n_pos;
  c_e = zeros;
}

-- what a refused build gives: every number +0, every count 0
abbrev pub no_state : ElectrolyteState
no_state =
    unfilled (record { d_e_ref = «0·0»; kappa_ref = «0·0»; t_plus = «0·0»; bruggeman = «0·0»; c_e_init = «0·0»; e_a_de = «0·0»; e_a_kappa = «0·0»; t_ref = «0·0» })
    «0·0» «0·0» «0·0» «0·0» «0·0» «0·0» 0 0 0

abbrev pub with_profile : ElectrolyteState → List Float → ElectrolyteState
with_profile e c = record {
  params = e.params;
  l_neg = e.l_neg;
  l_sep = e.l_sep;
  l_pos = e.l_pos;
  eps_neg = e.eps_neg;
  eps_sep = e.eps_sep;
  eps_pos = e.eps_pos;
  n_neg = e.n_neg;
  n_sep = e.n_sep;
  n_pos = e.n_pos;
  c_e = c;
}

-- ---- the mean
unfoldable pub average_of : ElectrolyteState → Float
average_of e = sum_of e.c_e (total e) ⊘ count (total e)

-- ---- the largest stable interval
-- the width of a node
abbrev pub width : Float → ℕ → Float
width l n = l ⊘ count n

-- the least of three, from the left
abbrev pub least_of : Float → Float → Float → Float
least_of a b c = min_of (min_of a b) c

-- 0.5 * dx * dx / d, d the effective diffusivity at the least porosity, dx the least width
unfoldable pub stable_interval : ElectrolyteState → Float → Float
stable_interval e t =
    let dx = least_of (width e.l_neg e.n_neg) (width e.l_sep e.n_sep) (width e.l_pos e.n_pos) in
    let eps = least_of e.eps_neg e.eps_sep e.eps_pos in
    «0·5» ⊗ dx ⊗ dx ⊘ diffusivity_eff e.params eps t

-- ---- what a step works with
-- a region of the porosity eps, the length l and n nodes, with the source src
unfoldable pub region_of : ElectrolyteParams → Float → Float → ℕ → Float → Float → Region
region_of p eps l n src t = record { eps = eps; dx = width l n; d_eff = diffusivity_eff p eps t; src = src }

-- the source of a reaction j is (1 - t_plus) * j; the separator has none, +0
abbrev source : ElectrolyteState → Float → Float
source e j = (one ⊖ e.params.t_plus) ⊗ j

unfoldable pub step_params : ElectrolyteState → Float → Float → Float → Float → ElectrolyteStepParams
step_params e j_neg j_pos dt t = record {
  neg = region_of e.params e.eps_neg e.l_neg e.n_neg (source e j_neg) t;
  sep = region_of e.params e.eps_sep e.l_sep e.n_sep «0·0» t;
  pos = region_of e.params e.eps_pos e.l_pos e.n_pos (source e j_pos) t;
  past_neg = e.n_neg;
  past_sep = e.n_neg + e.n_sep;
  n = total e;
  dt = dt;
}
