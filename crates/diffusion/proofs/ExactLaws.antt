-- Laws of the exact sub-step: every node anew is a mean of old nodes, and at the surface the flux's part more. So it brings two profiles no further apart, and keeps their order,
-- in the profile and in the flux.
use Rattle.std.specs.Prelude.{ℕ, ◌+◌, ◌-◌, ◌<◌, ◌≤◌, ◌≡◌, [], ◌∷◌}
use Rattle.std.proofs.Common.{arith}
use Rattle.fraction.specs.Fraction.{Fraction, nat, ◌+F◌, ◌-F◌, ◌*F◌, ◌/F◌, inv, ◌≤F◌, ◌<F◌, ◌within◌, ◌from◌to◌}
use Rattle.fraction.proofs.Certificate.{quote}
use Rattle.fraction.proofs.Certificate.{le_by, within_by, up, hi, lo, num, eqn, ◌⊞◌, ◌⊠◌, ◌·◌}
use Rattle.fraction.proofs.Clamp.{clamp_mono, clamp_apart}
use Rattle.fraction.proofs.Inverse.{mul_inv, inv_nn, mul-pos}
use Rattle.fraction.proofs.Mean.{Weights, mean₂_mono, mean₂_apart, mean₃_mono, mean₃_apart}
use Rattle.fraction.proofs.Order.{nat_le, nat_lt}
use Rattle.diffusion.specs.Exact.{Numbers, g, centre, inner, surface, moved, exact_node}
use Rattle.diffusion.specs.Premises.{Stable}
use Rattle.diffusion.specs.Places.{by_place, same_place, other_place}

pub over_nn : (i : ℕ) → 1 ≤ i → nat 0 ≤F inv (nat i)
over_nn i l = inv_nn (nat_lt 0 i l)

pub over_le : (i : ℕ) → 1 ≤ i → inv (nat i) ≤F nat 1
over_le i l = le_by (nat i ∷ inv (nat i) ∷ []) 0 (over_nn i l ⊠ up (nat_le 1 i l) ⊞ eqn (nat 1 · mul_inv (nat_lt 0 i l))) (search quote depth 24) tt

-- which node is which
module _ (e : Numbers) (c : ℕ → Fraction) where
  pub moved_inner : (i : ℕ) → 1 ≤ i → i + 1 < e.n → moved e c i ≡ inner e c i
  unfolding moved
  moved_inner i l m = rw (other_place i 0 (λ q. absurd (omega (arith, q))), other_place i (e.n - 1) (λ q. absurd (omega (arith, q))))

  pub moved_surface : 3 ≤ e.n → moved e c (e.n - 1) ≡ surface e c (e.n - 1)
  unfolding moved
  moved_surface l = rw (other_place (e.n - 1) 0 (λ q. absurd (omega (arith, q))), same_place (e.n - 1))

-- the same numbers with another flux
abbrev pub with_flux : Numbers → Fraction → Numbers
with_flux e f = record { n = e.n; h = e.h; D = e.D; M = e.M; flux = f; t = e.t }

module _ (e : Numbers) (s : Stable e) where
  -- ---- the weights
  hh : nat 0 <F e.h *F e.h
  hh = mul-pos s.h_pos s.h_pos

  pub g_low : nat 0 ≤F g e
  unfolding g
  g_low = s.t_low ⊠ s.D-low ⊠ inv_nn hh

  pub g_high : nat 6 *F g e ≤F nat 1
  unfolding g
  g_high = le_by (e.t ∷ e.D ∷ e.h ∷ inv (e.h *F e.h) ∷ []) 0 (up s.stable ⊠ inv_nn hh ⊞ eqn (nat 1 · mul_inv hh)) (search quote depth 24) tt

  pub centre_weight : nat 6 *F g e from nat 0 to nat 1
  centre_weight = record { lower = num 6 ⊠ g_low; upper = g_high }

  surface_weight : nat 2 *F g e from nat 0 to nat 1
  surface_weight = record { lower = num 2 ⊠ g_low; upper = le_by (g e ∷ []) 0 (up g_high ⊞ num 4 ⊠ g_low) (search quote depth 24) tt }

  inner_weights : (i : ℕ) → 1 ≤ i → Weights (g e *F (nat 1 -F nat 1 /F nat i)) (g e *F (nat 1 +F nat 1 /F nat i))
  inner_weights i l = record {
    first = le_by (g e ∷ inv (nat i) ∷ []) 0 (g_low ⊠ up (over_le i l)) (search quote depth 24) tt;
    second = le_by (g e ∷ inv (nat i) ∷ []) 0 (g_low ⊠ (num 1 ⊞ over_nn i l)) (search quote depth 24) tt;
    rest = le_by (g e ∷ inv (nat i) ∷ []) 0 (up g_high ⊞ num 4 ⊠ g_low) (search quote depth 24) tt;
  }

  -- ---- two profiles that are nowhere further apart than B
  module _ (a b : ℕ → Fraction) {B : Fraction} (h : (i : ℕ) → i < e.n → a i -F b i within B) where
    centre_apart : moved e a 0 -F moved e b 0 within B
    unfolding moved centre
    centre_apart = let n = s.n_low in mean₂_apart centre_weight (a 0) (a 1) (b 0) (b 1) (h 0 (omega arith)) (h 1 (omega arith))

    inner_apart : (i : ℕ) → 1 ≤ i → i + 1 < e.n → inner e a i -F inner e b i within B
    unfolding inner
    inner_apart i l m = mean₃_apart (inner_weights i l) (a i) (a (i - 1)) (a (i + 1)) (b i) (b (i - 1)) (b (i + 1)) (h i (omega arith)) (h (i - 1) (omega arith)) (h (i + 1) m)

    surface_apart : (p : ℕ) → p < e.n → surface e a p -F surface e b p within B
    unfolding surface
    surface_apart p l =
        let w = mean₂_apart surface_weight (a p) (a (p - 1)) (b p) (b (p - 1)) (h p l) (h (p - 1) (omega arith)) in
        within_by (a p ∷ a (p - 1) ∷ b p ∷ b (p - 1) ∷ g e ∷ e.t ∷ e.flux ∷ inv e.h ∷ inv (nat p) ∷ B ∷ []) 0 (hi w) (lo w) (search quote depth 24) tt tt

    moved_apart : (i : ℕ) → i < e.n → moved e a i -F moved e b i within B
    moved_apart = let n = s.n_low in
        by_place (λ i. moved e a i -F moved e b i within B) e.n n centre_apart
        (λ i l m. rw (moved_inner e a i l m, moved_inner e b i l m) (inner_apart i l m))
        (rw (moved_surface e a n, moved_surface e b n) (surface_apart (e.n - 1) (omega arith)))

    -- CONTRACTION
    pub contraction : (i : ℕ) → i < e.n → exact_node e a i -F exact_node e b i within B
    unfolding exact_node
    contraction i l = clamp_apart _ _ (moved e a i) (moved e b i) (moved_apart i l)

  -- ---- two profiles of which the second is nowhere less, and a flux that is not less
  module _ (f : Fraction) (more : e.flux ≤F f) (a b : ℕ → Fraction) (h : (i : ℕ) → i < e.n → a i ≤F b i) where
    abbrev e' : Numbers
    e' = with_flux e f

    centre_mono : moved e a 0 ≤F moved e' b 0
    unfolding moved centre g
    centre_mono = let n = s.n_low in mean₂_mono centre_weight (h 0 (omega arith)) (h 1 (omega arith))

    inner_mono : (i : ℕ) → 1 ≤ i → i + 1 < e.n → inner e a i ≤F inner e' b i
    unfolding inner g
    inner_mono i l m = mean₃_mono (inner_weights i l) (h i (omega arith)) (h (i - 1) (omega arith)) (h (i + 1) m)

    surface_mono : (p : ℕ) → 1 ≤ p → p < e.n → surface e a p ≤F surface e' b p
    unfolding surface g
    surface_mono p k l = le_by (a p ∷ a (p - 1) ∷ b p ∷ b (p - 1) ∷ g e ∷ e.t ∷ e.flux ∷ f ∷ inv e.h ∷ inv (nat p) ∷ []) 0
        (up (mean₂_mono surface_weight (h p l) (h (p - 1) (omega arith))) ⊞ num 2 ⊠ (s.t_low ⊠ up more ⊠ inv_nn s.h_pos ⊠ (num 1 ⊞ over_nn p k))) (search quote depth 24) tt

    moved_mono : (i : ℕ) → i < e.n → moved e a i ≤F moved e' b i
    moved_mono = let n = s.n_low in
        by_place (λ i. moved e a i ≤F moved e' b i) e.n n centre_mono
        (λ i l m. rw (moved_inner e a i l m, moved_inner e' b i l m) (inner_mono i l m))
        (rw (moved_surface e a n, moved_surface e' b n) (surface_mono (e.n - 1) (omega arith) (omega arith)))

    -- MONOTONY
    pub monotone : (i : ℕ) → i < e.n → exact_node e a i ≤F exact_node e' b i
    unfolding exact_node
    monotone i l = clamp_mono _ _ (moved_mono i l)
