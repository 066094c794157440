-- The places of a profile after a sub-step, in binary64 and exact: those in use hold their node, the others what they held.
use Rattle.std.specs.Prelude.{ℕ, ◌<◌, ◌≤◌, ◌≡◌, List, map, length, Float}
use Rattle.std.proofs.Math.ListN.{get_or, get_or-map}
use Rattle.std.specs.Float.Ieee.{nan}
use Rattle.fraction.specs.Fraction.{Fraction, nat}
use Rattle.binary64.specs.Value.{val}
use Rattle.iterate.specs.Iterate.{first_length, first_below, first_above}
use Rattle.diffusion.specs.SubStep.{SubStepParams, node, sub_step}
use Rattle.diffusion.specs.Exact.{Numbers, exact_node, exact_step}

module _ (v : SubStepParams) (c : List Float) where
  pub step_length : length (sub_step v c) ≡ length c
  unfolding sub_step
  step_length = first_length (node v (λ k. get_or c k nan)) c v.n

  pub step_place : (i : ℕ) → i < v.n → v.n ≤ length c → get_or (sub_step v c) i nan ≡ node v (λ k. get_or c k nan) i
  unfolding sub_step
  step_place i l m = first_below (node v (λ k. get_or c k nan)) c v.n i nan l m

  -- a place that is not used stays as it is
  pub step_unused : (i : ℕ) (d : Float) → v.n ≤ i → get_or (sub_step v c) i d ≡ get_or c i d
  unfolding sub_step
  step_unused i d l = first_above (node v (λ k. get_or c k nan)) c v.n i d l

module _ (e : Numbers) (x : List Fraction) where
  pub exact_length : length (exact_step e x) ≡ length x
  unfolding exact_step
  exact_length = first_length (exact_node e (λ k. get_or x k (nat 0))) x e.n

  pub exact_place_lem : (i : ℕ) → i < e.n → e.n ≤ length x → get_or (exact_step e x) i (nat 0) ≡ exact_node e (λ k. get_or x k (nat 0)) i
  unfolding exact_step
  exact_place_lem i l m = first_below (exact_node e (λ k. get_or x k (nat 0))) x e.n i (nat 0) l m

-- the values of a profile
pub values_at : (c : List Float) (i : ℕ) → get_or (map val c) i (nat 0) ≡ val (get_or c i nan)
unfolding val
values_at c i = get_or-map val c i nan
