-- The sub-step with what does not change within a call worked out once; which kind a node is, and that the surface comes last. `Same` shows that it is the sub-step of `diffusion`.
use Rattle.std.specs.Prelude.{ℕ, ◌+◌, ◌-◌, ◌<◌, ◌≤◌, ◌≡◌, cond, ltb, eqb, get_or, replicate, Float}
use Rattle.std.proofs.Math.Path.{sym, ap₂}
use Rattle.std.proofs.Common.{◌∙◌, arith}
use borrow.Author.Tests.{ne_eqb, lt-ltb, le-ltb}
use mathlib.Core.List.{List}
use Rattle.std.proofs.Math.ListN.{set}
use Rattle.std.specs.Float.{nan}
use Rattle.binary64.specs.Operators.{◌⊕◌, ◌⊖◌, ◌⊗◌, ◌⊘◌, count}
use Rattle.binary64.specs.Literals.{«0·0»}
use Rattle.min_max.specs.MinMax.{clamp_of}
use Rattle.iterate.specs.Iterate.{first_by, first_suc}
use Rattle.diffusion.specs.SubStep.{two, six}
use Rattle.profile.specs.declared.sub_step.SubStepCoefficients.{SubStepCoefficients}

-- n nodes, spacing, diffusivity, the most that a node holds, flux, interval
abbrev pub prepared : ℕ → Float → Float → Float → Float → Float → SubStepCoefficients
prepared n dr ds cmax j dt = record {
  n = n;
  d_s = ds;
  six_d = six ⊗ ds;
  dr_2 = dr ⊗ dr;
  two_dr = two ⊗ dr;
  flux_term = two ⊗ dr ⊗ j ⊘ ds;
  c_max = cmax;
  dt = dt;
}

-- 2 / r at the first n places
abbrev pub inverse_radius : Float → ℕ → Float
inverse_radius dr i = two ⊘ (count i ⊗ dr)

unfoldable pub inverse_radii : ℕ → Float → List Float
inverse_radii n dr = first_by n (inverse_radius dr) (replicate 64 «0·0»)

abbrev pub places_of : List Float → ℕ → Float
places_of c i = get_or c i nan

module _ (v : SubStepCoefficients) where
  abbrev pub centre_by : Float → Float → Float
  centre_by c0 c1 = v.six_d ⊗ (c1 ⊖ c0) ⊘ v.dr_2

  abbrev pub shell_by : Float → Float → Float → Float → Float
  shell_by w before here after =
      v.d_s ⊗ ((after ⊖ two ⊗ here ⊕ before) ⊘ v.dr_2 ⊕ w ⊗ ((after ⊖ before) ⊘ v.two_dr))

  abbrev pub moved_by : Float → Float → Float
  moved_by here rate = clamp_of (here ⊕ v.dt ⊗ rate) «0·0» v.c_max

  -- the three kinds of nodes anew, with 2 / r from the table w
  abbrev pub centre_node : (ℕ → Float) → Float
  centre_node c = moved_by (c 0) (centre_by (c 0) (c 1))

  abbrev pub shell_node : List Float → (ℕ → Float) → ℕ → Float
  shell_node w c i = moved_by (c i) (shell_by (get_or w i nan) (c (i - 1)) (c i) (c (i + 1)))

  abbrev pub surface_node : List Float → (ℕ → Float) → ℕ → Float
  surface_node w c i = moved_by (c i) (shell_by (get_or w i nan) (c (i - 1)) (c i) (c (i - 1) ⊕ v.flux_term))

  unfoldable pub node_by : List Float → (ℕ → Float) → ℕ → Float
  node_by w c i = cond (eqb i 0) (centre_node c) (cond (ltb i (v.n - 1)) (shell_node w c i) (surface_node w c i))

  unfoldable pub sub_step_by : List Float → List Float → List Float
  sub_step_by w c = first_by v.n (node_by w (places_of c)) c

  -- which kind a node is
  pub node_shell : (w : List Float) (c : ℕ → Float) (i : ℕ) → 0 < i → i < v.n - 1 → node_by w c i ≡ shell_node w c i
  unfolding node_by
  node_shell w c i h l = rw (ne_eqb i 0 (λ e. omega arith), lt-ltb i (v.n - 1) l)

  pub node_surface : (w : List Float) (c : ℕ → Float) (i : ℕ) → 0 < i → v.n - 1 ≤ i → node_by w c i ≡ surface_node w c i
  unfolding node_by
  node_surface w c i h l = rw (ne_eqb i 0 (λ e. omega arith), le-ltb i (v.n - 1) l)

  -- the surface comes last
  pub surface_last : (w c out : List Float) → 2 ≤ v.n → out ≡ first_by (v.n - 1) (node_by w (places_of c)) c → set out (v.n - 1) (surface_node w (places_of c) (v.n - 1)) ≡ sub_step_by w c
  unfolding sub_step_by
  surface_last w c out h e =
      ap₂ (λ (l : List Float) (x : Float). set l (v.n - 1) x) e (sym (node_surface w (places_of c) (v.n - 1) (omega arith) (omega arith)))
      ∙ sym (first_suc (node_by w (places_of c)) c v.n (v.n - 1) (omega arith))
