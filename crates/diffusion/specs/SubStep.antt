-- One sub-step of the diffusion in a particle, in binary64: `ParticleDiffusion::step` of electrode.rs, operation by operation. Definitions only.
use Rattle.std.specs.Prelude.{ℕ, ◌+◌, ◌-◌, cond, List, ltb, eqb, get_or, Float}
use Rattle.std.specs.Float.{nan}
use Rattle.binary64.specs.Operators.{◌⊕◌, ◌⊖◌, ◌⊗◌, ◌⊘◌, count}
use Rattle.binary64.specs.Literals.{«0·0», «2·0», «6·0»}
use Rattle.min_max.specs.MinMax.{clamp_of}
use Rattle.iterate.specs.Iterate.{first_by}

-- 2 and 6
abbrev pub two : Float
two = «2·0»

abbrev pub six : Float
six = «6·0»

-- what a sub-step works with: how many nodes, the spacing, the diffusivity, the most that a node holds, the flux, the interval
pub record SubStepParams : Type 0 where
  pub n : ℕ
  pub dr : Float
  pub d_s : Float
  pub c_max : Float
  pub j_n : Float
  pub dt : Float

module _ (v : SubStepParams) where
  -- the rate at the centre
  abbrev pub centre_rate : Float → Float → Float
  centre_rate c0 c1 = six ⊗ v.d_s ⊗ (c1 ⊖ c0) ⊘ (v.dr ⊗ v.dr)

  -- the rate at the node i, with its neighbours' values
  abbrev pub shell_rate : ℕ → Float → Float → Float → Float
  shell_rate i before here after =
      let r = count i ⊗ v.dr in
      let d2c = (after ⊖ two ⊗ here ⊕ before) ⊘ (v.dr ⊗ v.dr) in
      let dc_dr = (after ⊖ before) ⊘ (two ⊗ v.dr) in
      v.d_s ⊗ (d2c ⊕ two ⊘ r ⊗ dc_dr)

  -- the value beyond the surface that the flux asks for
  abbrev pub ghost_node : Float → Float
  ghost_node before = before ⊕ two ⊗ v.dr ⊗ v.j_n ⊘ v.d_s

  -- a node's rate, from the old nodes
  unfoldable pub rate : (ℕ → Float) → ℕ → Float
  rate c i =
      cond (eqb i 0) (centre_rate (c 0) (c 1))
      (shell_rate i (c (i - 1)) (c i) (cond (ltb i (v.n - 1)) (c (i + 1)) (ghost_node (c (i - 1)))))

  -- a node anew: by its rate over the interval, then clamped
  unfoldable pub node : (ℕ → Float) → ℕ → Float
  node c i = clamp_of (c i ⊕ v.dt ⊗ rate c i) «0·0» v.c_max

  -- the profile anew: the first n places from the old profile, the others kept
  unfoldable pub sub_step : List Float → List Float
  sub_step c = first_by v.n (node (λ i. get_or c i nan)) c
