-- One explicit step of the profile, `step_concentration` of electrolyte.rs, node by node. Definitions only.
use Rattle.std.specs.Prelude.{ℕ, ◌+◌, ◌-◌, cond, List, eqb, ltb, Float}
use Rattle.binary64.specs.Operators.{◌⊕◌, ◌⊖◌, ◌⊗◌, ◌⊘◌}
use Rattle.binary64.specs.Literals.{«2·0»}
use Rattle.min_max.specs.MinMax.{max_of}
use Rattle.iterate.specs.Iterate.{first_by}
use Rattle.arrays.specs.Places.{at}
use Rattle.electrolyte_profile.specs.declared.Region.{Region}
use Rattle.electrolyte_profile.specs.declared.ElectrolyteStepParams.{ElectrolyteStepParams}
use Rattle.electrolyte_profile.specs.Places.{floor}

-- the region of the node i
unfoldable pub region_at : ElectrolyteStepParams → ℕ → Region
region_at v i = cond (ltb i v.past_neg) v.neg (cond (ltb i v.past_sep) v.sep v.pos)

-- the neighbours of the node i of n; each end is its own
unfoldable pub left_of : List Float → ℕ → Float
left_of c i = cond (eqb i 0) (at c 0) (at c (i - 1))

unfoldable pub right_of : List Float → ℕ → ℕ → Float
right_of c i n = cond (eqb i (n - 1)) (at c (n - 1)) (at c (i + 1))

-- 2
abbrev two : Float
two = «2·0»

-- max(1e-10): so a NaN becomes 1e-10 too
abbrev floored : Float → Float
floored x = max_of x floor

-- here + dt * ((d_eff * ((left - 2 * here + right) / (dx * dx)) + src) / eps), floored
unfoldable pub node_from : Region → Float → Float → Float → Float → Float
node_from r dt left here right = floored (here ⊕ dt ⊗ ((r.d_eff ⊗ ((left ⊖ two ⊗ here ⊕ right) ⊘ (r.dx ⊗ r.dx)) ⊕ r.src) ⊘ r.eps))

unfoldable pub node_new : ElectrolyteStepParams → List Float → ℕ → Float
node_new v c i = node_from (region_at v i) v.dt (left_of c i) (at c i) (right_of c i v.n)

-- every node anew from the old profile, the unused places kept
unfoldable pub profile_new : ElectrolyteStepParams → List Float → List Float
profile_new v c = first_by v.n (node_new v c) c
