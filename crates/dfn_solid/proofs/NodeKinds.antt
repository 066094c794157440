-- Which kind of node stands where, and what a particle's last place is put by. Assumes nothing.
use Rattle.std.proofs.Common.{◌≡◌, ℕ, suc, ◌+◌, ◌-◌, ◌<◌, ◌≤◌, List, set, arith, le-ltb, lt-ltb, ne_eqb}
use lib.Ieee.{Float}
use Rattle.array_update.specs.ArrayUpdate.{places_by}
use Rattle.dfn_solid.specs.Solid.{inner_with, surface_with, node_with, clamped_node, particle_with}
use Rattle.dfn_solid.specs.declared.ParticleParams.{ParticleParams}

pub one_place : (base : ℕ) (f : ℕ → Float) (l : List Float) → set l base (f 0) ≡ places_by base 1 f l
unfolding places_by
one_place base f l = let e : base + 0 ≡ base = omega arith in rw e

next_place : (base n m : ℕ) (f : ℕ → Float) (l : List Float) → n ≡ suc m → places_by base n f l ≡ set (places_by base m f l) (base + m) (f m)
unfolding places_by
next_place base n m f l e = rw e

module _ (v : ParticleParams) (c d : List Float) (base : ℕ) where
  pub inner_is : (i : ℕ) → 1 ≤ i → i < v.n - 1 → node_with v c d base i ≡ inner_with v c d (base + i) i
  unfolding node_with
  inner_is i h k =
      let a : i ≡ 0 → ⊥ = λ e. omega arith in
      let b : i + 1 < v.n = omega arith in
      rw (ne_eqb i 0 a, lt-ltb (i + 1) v.n b)

  pub surface_is : 2 ≤ v.n → node_with v c d base (v.n - 1) ≡ surface_with v c d (base + (v.n - 1))
  unfolding node_with
  surface_is h =
      let a : v.n - 1 ≡ 0 → ⊥ = λ e. omega arith in
      let b : v.n ≤ v.n - 1 + 1 = omega arith in
      rw (ne_eqb (v.n - 1) 0 a, le-ltb (v.n - 1 + 1) v.n b)

  pub last_place : (l : List Float) → 2 ≤ v.n
      → particle_with v c d base l ≡ set (places_by base (v.n - 1) (clamped_node v c d base) l) (base + (v.n - 1)) (clamped_node v c d base (v.n - 1))
  unfolding particle_with
  last_place l h = next_place base v.n (v.n - 1) (clamped_node v c d base) l (omega arith)
