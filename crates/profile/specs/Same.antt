-- What is worked out once changes no bit: the prepared sub-step is the sub-step of `diffusion`. Assumes nothing.
use Prim.Native.Nat.{ℕ, zero, suc, ◌+◌, ◌-◌, ◌<◌, ◌≤◌}
use Rattle.std.specs.Prelude.{◌≡◌, Bool, true, false, cond, List, ltb, get_or, replicate, Float}
use Rattle.std.proofs.Math.Path.{refl, ap}
use Rattle.std.proofs.Common.{◌∙◌}
use Rattle.std.proofs.Math.Dec.{eqb-suc-zero}
use Rattle.std.specs.Float.Ieee.{nan}
use Rattle.binary64.specs.Operators.{◌⊕◌, ◌⊗◌, ◌⊘◌, count}
use Rattle.binary64.specs.Literals.{«0·0»}
use Rattle.iterate.specs.Iterate.{first_below, first_cong}
use Rattle.diffusion.specs.SubStep as S
use Rattle.profile.specs.declared.sub_step.SubStepCoefficients.{SubStepCoefficients}
use Rattle.profile.specs.SubSteps.{prepared, inverse_radius, inverse_radii, places_of, moved_by, shell_by, node_by, sub_step_by}

abbrev pub prepared_of : S.SubStepParams → SubStepCoefficients
prepared_of d = prepared d.n d.dr d.d_s d.c_max d.j_n d.dt

abbrev pub table_of : S.SubStepParams → List Float
table_of d = inverse_radii d.n d.dr

module _ (d : S.SubStepParams) (few : d.n ≤ 64) where
  table_at : (i : ℕ) → i < d.n → get_or (table_of d) i nan ≡ S.two ⊘ (count i ⊗ d.dr)
  unfolding inverse_radii
  table_at i h = first_below (inverse_radius d.dr) (replicate 64 «0·0») d.n i nan h few

  abbrev outer : (ℕ → Float) → ℕ → Bool → Float
  outer c i b = cond b (c (i + 1)) (S.ghost_node d (c (i - 1)))

  -- the two kinds of nodes that have an outer neighbour
  either : (w : Float) (c : ℕ → Float) (i : ℕ) (b : Bool) → cond b (moved_by (prepared_of d) (c i) (shell_by (prepared_of d) w (c (i - 1)) (c i) (c (i + 1))))
      (moved_by (prepared_of d) (c i) (shell_by (prepared_of d) w (c (i - 1)) (c i) (c (i - 1) ⊕ (prepared_of d).flux_term)))
      ≡ moved_by (prepared_of d) (c i) (shell_by (prepared_of d) w (c (i - 1)) (c i) (outer c i b))
  either w c i true = refl
  either w c i false = refl

  same_node : (c : ℕ → Float) (i : ℕ) → i < d.n → node_by (prepared_of d) (table_of d) c i ≡ S.node d c i
  unfolding node_by S.node S.rate
  same_node c zero h = refl
  same_node c (suc i) h =
      rw eqb-suc-zero
      (either (get_or (table_of d) (suc i) nan) c (suc i) (ltb (suc i) (d.n - 1))
      ∙ ap (λ (w : Float). moved_by (prepared_of d) (c (suc i)) (shell_by (prepared_of d) w (c (suc i - 1)) (c (suc i)) (outer c (suc i) (ltb (suc i) (d.n - 1))))) (table_at (suc i) h))

  pub same_sub_step : (c : List Float) → sub_step_by (prepared_of d) (table_of d) c ≡ S.sub_step d c
  unfolding sub_step_by S.sub_step
  same_sub_step c = first_cong (node_by (prepared_of d) (table_of d) (places_of c)) (S.node d (places_of c)) c d.n (same_node (places_of c))
