-- The exact diffusion scheme in a particle: one sub-step, unrounded, on fractions. Definitions only.
use Rattle.std.specs.Prelude.{ℕ, ◌+◌, ◌-◌, cond, List, eqb, get_or}
use Rattle.fraction.specs.Fraction.{Fraction, nat, ◌+F◌, ◌-F◌, ◌*F◌, ◌/F◌, clamp_f}
use Rattle.binary64.specs.Value.{val}
use Rattle.iterate.specs.Iterate.{first_by}
use Rattle.diffusion.specs.SubStep.{SubStepParams}

-- how many nodes, the spacing, the diffusivity, the most that a node holds, the flux, the length of the sub-step
pub record Numbers : Type 0 where
  pub n : ℕ
  pub h : Fraction
  pub D : Fraction
  pub M : Fraction
  pub flux : Fraction
  pub t : Fraction

module _ (e : Numbers) where
  unfoldable pub g : Fraction
  g = e.t *F e.D /F (e.h *F e.h)

  -- each from the old nodes c
  unfoldable pub centre : (ℕ → Fraction) → Fraction
  centre c = c 0 +F nat 6 *F g *F (c 1 -F c 0)

  unfoldable pub inner : (ℕ → Fraction) → ℕ → Fraction
  inner c i = c i +F g *F (nat 1 -F nat 1 /F nat i) *F (c (i - 1) -F c i) +F g *F (nat 1 +F nat 1 /F nat i) *F (c (i + 1) -F c i)

  unfoldable pub surface : (ℕ → Fraction) → ℕ → Fraction
  surface c p = c p +F nat 2 *F g *F (c (p - 1) -F c p) +F (nat 2 *F e.t *F e.flux /F e.h) *F (nat 1 +F nat 1 /F nat p)

  unfoldable pub moved : (ℕ → Fraction) → ℕ → Fraction
  moved c i = cond (eqb i 0) (centre c) (cond (eqb i (e.n - 1)) (surface c (e.n - 1)) (inner c i))

  -- then what is below 0 becomes 0, what is above M becomes M
  unfoldable pub exact_node : (ℕ → Fraction) → ℕ → Fraction
  exact_node c i = clamp_f (nat 0) e.M (moved c i)

  -- the profile anew: the first n places from the old profile, the others kept
  unfoldable pub exact_step : List Fraction → List Fraction
  exact_step c = first_by e.n (exact_node (λ i. get_or c i (nat 0))) c

-- a binary64 sub-step's own numbers, as fractions
abbrev pub numbers : SubStepParams → Numbers
numbers v = record { n = v.n; h = val v.dr; D = val v.d_s; M = val v.c_max; flux = val v.j_n; t = val v.dt }
