-- One binary64 sub-step before the clamp, operation by operation: each node is within 14·M / 2 ^ 53 of the exact one. In `Near x q κ k b` κ is a scale, k counts roundings and
-- b is the size in scales. An inner node and the surface are one chain, the neighbour outside being a node or the ghost.
use Rattle.std.specs.Prelude.{ℕ, ◌+◌, ◌-◌, ◌*◌, ◌^◌, ◌≤◌, [], ◌∷◌, refl, T, leb, ltb, pos, Float}
use Rattle.std.proofs.Common.{le_trans, lit≤}
use native.Mathlib.Omega.{arith}
use Rattle.std.specs.Float.Ieee.{of_bits}
use Rattle.std.specs.Float.Ieee.Scale.{finite}
use Rattle.fraction.specs.Fraction.{Fraction, whole, nat, ◌+F◌, neg_f, ◌-F◌, ◌*F◌, ◌/F◌, inv, ∣◌∣, ◌≈F◌, ◌≤F◌, ◌<F◌, ◌within◌}
use Rattle.fraction.proofs.Field.{≈F-refl, ≤F-of-≈F, *F-comm, nn-nat_f, le_of_lt}
use Rattle.fraction.proofs.Certificate.{quote}
use Rattle.fraction.proofs.Certificate.{ring, le_by, eq_by, within_by, up, hi, lo, num, eqn, ◌⊞◌, ◌⊠◌, ◌·◌, ◌&◌}
use Rattle.fraction.proofs.Inverse.{mul_inv, inv_nn, inv_mul}
use Rattle.fraction.proofs.Mean.{mean₂_between}
use Rattle.fraction.proofs.Order.{≤F-refl, nat_le, nat_lt, lit≈F}
use Rattle.fraction.proofs.Size.{Size, size_pos, size_nat, size_mul, size_inv, size_wider}
use Rattle.fraction.proofs.Within.{within_self, within_abs, within_resp}
use Rattle.binary64.specs.Operators.{◌⊕◌, ◌⊖◌, ◌⊗◌, ◌⊘◌, count}
use Rattle.binary64.proofs.Near.{Fair, Near, exact, near_resp, rescale, near_add, near_sub, near_mul, near_div, near_factor}
use Rattle.binary64.proofs.OrderLaws.{positive-finite}
use Rattle.binary64.proofs.Rounds.{rounds_resp, mul_rounds}
use Rattle.binary64.specs.Value.{val, int_finite}
use Rattle.binary64.proofs.Value.{int_val}
use Rattle.diffusion.specs.SubStep.{SubStepParams, two, six, centre_rate, shell_rate, ghost_node}
use Rattle.diffusion.specs.Exact.{numbers, g, centre, inner, surface}
use Rattle.diffusion.proofs.ExactLaws.{over_nn, centre_weight}
use Rattle.diffusion.specs.Premises.{Ready, NodeInRange, ready_stable}

fair : {κ : Fraction} {e f : ℕ} → Size κ e f → T (leb e 1000) → T (leb f 900) → Fair κ
fair s p q = size_wider 1000 900 s (lit≤ p) (lit≤ q)

own : (x : Fraction) → nat 0 ≤F x → x within x *F nat 1
own x h = within_by (x ∷ []) 0 (num 0) (num 2 ⊠ h) (search quote depth 24) tt tt

-- what is above 0 is its own scale: a float, and a natural number
self : (x : Float) {e f : ℕ} → Size (val x) e f → T (leb e 1000) → T (leb f 900) → Near x (val x) (val x) 0 1
self x s p q = exact (positive-finite x (size_pos s)) ≈F-refl (fair s p q) 1 (own (val x) (le_of_lt (size_pos s))) tt

natural : (x : Float) (n f : ℕ) → T (finite x) → val x ≈F nat n → Size (nat n) 0 f → T (leb f 900) → Near x (nat n) (nat n) 0 1
natural x n f p e s q = exact p e (fair s tt q) 1 (own (nat n) (nn-nat_f n)) tt

size_2 : Size (nat 2) 0 1
size_2 = size_nat 2 1 (lit≤ tt) (lit≤ tt)

size_6 : Size (nat 6) 0 3
size_6 = size_nat 6 3 (lit≤ tt) (lit≤ tt)

near_2 : Near two (nat 2) (nat 2) 0 1
unfolding of_bits val whole
near_2 = natural two 2 1 tt (lit≈F refl) size_2 tt

near_6 : Near six (nat 6) (nat 6) 0 1
unfolding of_bits val whole
near_6 = natural six 6 3 tt (lit≈F refl) size_6 tt

near_count : (i : ℕ) → 1 ≤ i → i ≤ 64 → Near (count i) (nat i) (nat i) 0 1
near_count i l m = natural (count i) i 6 (int_finite (pos i) (le_trans m (lit≤ tt))) (int_val (pos i) (le_trans m (lit≤ tt))) (size_nat i 6 l m) tt

module _ (v : SubStepParams) (r : Ready v) where
  abbrev H : Fraction
  H = val v.dr

  abbrev D : Fraction
  D = val v.d_s

  abbrev M : Fraction
  M = val v.c_max

  abbrev J : Fraction
  J = val v.j_n

  abbrev t : Fraction
  t = val v.dt

  -- 1 / h²
  abbrev I : Fraction
  I = inv (H *F H)

  size_hh : Size (H *F H) 200 200
  size_hh = size_mul r.ranges.dr r.ranges.dr

  I-low : nat 0 ≤F I
  I-low = inv_nn (size_pos size_hh)

  M-low : nat 0 ≤F M
  M-low = le_of_lt (size_pos r.ranges.c_max)

  M-fair : Fair M
  M-fair = fair r.ranges.c_max tt tt

  size_bend : Size (M *F I) 300 300
  size_bend = size_mul r.ranges.c_max (size_inv size_hh)

  near_h : Near v.dr H H 0 1
  near_h = self v.dr r.ranges.dr tt tt

  near-D : Near v.d_s D D 0 1
  near-D = self v.d_s r.ranges.d_s tt tt

  near_hh : Near (v.dr ⊗ v.dr) (H *F H) (H *F H) 2 1
  near_hh = near_mul near_h near_h (fair size_hh tt tt) tt

  near_2h : Near (two ⊗ v.dr) (nat 2 *F H) (nat 2 *F H) 2 1
  near_2h = near_mul near_2 near_h (fair (size_mul size_2 r.ranges.dr) tt tt) tt

  near_node : (x : Float) → NodeInRange M x → Near x (val x) M 0 1
  near_node x h = exact h.fine ≈F-refl M-fair 1
      (within_by (val x ∷ M ∷ []) 0 (up h.range.upper) (M-low ⊞ h.range.lower) (search quote depth 24) tt tt) tt

  -- two nodes are no further apart than M
  node_slope : (x y : Float) → NodeInRange M x → NodeInRange M y → val x -F val y within M *F nat 1
  node_slope x y h k = within_by (val x ∷ val y ∷ M ∷ []) 0 (up h.range.upper ⊞ k.range.lower) (h.range.lower ⊞ up k.range.upper) (search quote depth 24) tt tt

  -- ---- the centre
  centre_scale : t *F (nat 6 *F D *F M /F (H *F H)) *F nat 1 ≤F M
  centre_scale = le_by (t ∷ D ∷ M ∷ H ∷ I ∷ []) 0 (up r.conditions.stable ⊠ M-low ⊠ I-low ⊞ eqn (M · mul_inv (size_pos size_hh))) (search quote depth 24) tt

  centre_change : (c0 c1 : Float) → NodeInRange M c0 → NodeInRange M c1 → Near (v.dt ⊗ centre_rate v c0 c1) (t *F (nat 6 *F D *F (val c1 -F val c0) /F (H *F H))) M 12 1
  centre_change c0 c1 h0 h1 =
      let size-6D = size_mul size_6 r.ranges.d_s in
      let size-6DM = size_mul size-6D r.ranges.c_max in
      let a = near_mul near_6 near-D (fair size-6D tt tt) tt in
      let b = near_sub (near_node c1 h1) (near_node c0 h0) 1 (node_slope c1 c0 h1 h0) tt in
      let c = near_mul a b (fair size-6DM tt tt) tt in
      let d = near_div c near_hh (fair (size_mul size-6DM (size_inv size_hh)) tt tt) tt in
      near_factor v.dt (mul_rounds v.dt (centre_rate v c0 c1) r.ranges.dt_fine d.fine) (within_self r.ranges.dt_low) d M-fair 1 10 1 centre_scale tt tt tt

  pub centre_near : (c : ℕ → Float) → NodeInRange M (c 0) → NodeInRange M (c 1) → Near (c 0 ⊕ v.dt ⊗ centre_rate v (c 0) (c 1)) (centre (numbers v) (λ i. val (c i))) M 14 1
  unfolding centre g
  centre_near c h0 h1 =
      let x0 = val (c 0) in
      let x1 = val (c 1) in
      let w = mean₂_between (centre_weight (numbers v) (ready_stable r)) h0.range h1.range in
      near_resp (ring (x0 ∷ x1 ∷ t ∷ D ∷ I ∷ []) (search quote depth 24) tt)
      (near_add (near_node (c 0) h0) (centre_change (c 0) (c 1) h0 h1) 1
      (within_by (x0 ∷ x1 ∷ t ∷ D ∷ I ∷ M ∷ []) 0 (up w.upper) (M-low ⊞ w.lower) (search quote depth 24) tt tt) tt)

  -- ---- an inner node or the surface
  module _ (i : ℕ) (low : 1 ≤ i) (high : i ≤ 64) where
    abbrev steepness : Fraction → Fraction
    steepness s = nat 2 /F (nat i *F H) *F (s /F (nat 2 *F H))

    size_ih : Size (nat i *F H) 100 106
    size_ih = size_mul (size_nat i 6 low high) r.ranges.dr

    -- 2 / (i·h) · 1 / (2·h) is 1 / i · 1 / h²
    steep_is : nat 2 *F inv (nat i *F H) *F inv (nat 2 *F H) ≈F inv (nat i) *F I
    steep_is =
        let h = size_pos r.ranges.dr in
        let n = nat_lt 0 i low in
        let p : nat 0 <F nat 2 = size_pos size_2 in
        eq_by (inv (nat i *F H) ∷ inv (nat 2 *F H) ∷ I ∷ inv (nat i) ∷ inv H ∷ inv (nat 2) ∷ [])
        (nat 2 *F inv (nat 2 *F H) · inv_mul n h & nat 2 *F inv (nat i) *F inv H · inv_mul p h & neg_f (inv (nat i)) · inv_mul h h & inv (nat i) *F inv H *F inv H · mul_inv p) (search quote depth 24) tt

    steep_scale : (m : ℕ) → m ≤ i → nat 2 /F (nat i *F H) *F (M /F (nat 2 *F H)) *F nat m ≤F M *F I *F nat 1
    steep_scale m l =
        let k : nat m *F inv (nat i) ≤F nat 1 = le_by (nat m ∷ nat i ∷ inv (nat i) ∷ []) 0 (over_nn i low ⊠ up (nat_le m i l) ⊞ eqn (nat 1 · mul_inv (nat_lt 0 i low))) (search quote depth 24) tt in
        le_by (inv (nat i *F H) ∷ inv (nat 2 *F H) ∷ I ∷ inv (nat i) ∷ M ∷ nat m ∷ []) 0 (M-low ⊠ I-low ⊠ up k ⊞ eqn (M *F nat m · steep_is)) (search quote depth 24) tt

    -- the first difference s over 2·h, times 2 / r
    steep : {d : Float} {s : Fraction} {k : ℕ} → Near d s M k 1 → (m : ℕ) → m ≤ i → T (leb (k + 1 * 2 + 1 + 1 + 1) (2 ^ 20)) → T (leb (4 * 1 + (k + 1 * 2 + 1 + 1) * 1 + 1 * 1 + 1 + 1 * 1) (2 ^ 20))
        → T (ltb 0 m) → T (leb ((4 * 1 + (k + 1 * 2 + 1 + 1) * 1 + 1 * 1 + 1) * 1) (m * 12)) → T (leb (1 * 1 * 1) (m * 1))
        → Near (two ⊘ (count i ⊗ v.dr) ⊗ (d ⊘ (two ⊗ v.dr))) (steepness s) (M *F I) 12 1
    steep near m l a b z c d =
        let size-2r = size_mul size_2 (size_inv size_ih) in
        let size-slope = size_mul r.ranges.c_max (size_inv (size_mul size_2 r.ranges.dr)) in
        let over = near_div near_2 (near_mul (near_count i low high) near_h (fair size_ih tt tt) tt) (fair size-2r tt tt) tt in
        rescale (near_mul over (near_div near near_2h (fair size-slope tt tt) a) (fair (size_mul size-2r size-slope) tt tt) b) m 1 12 1 (steep_scale m l) (fair size_bend tt tt) z c d tt

    -- A is the neighbour outside, near it the float a
    module _ (m c a : Float) (hm : NodeInRange M m) (hc : NodeInRange M c) (A : Fraction) (na : Near a A M 9 2) (w : A -F val m within M *F nat 1)
        (ns : Near (two ⊘ (count i ⊗ v.dr) ⊗ ((a ⊖ m) ⊘ (two ⊗ v.dr))) (steepness (A -F val m)) (M *F I) 12 1) where
      abbrev curve : Fraction
      curve = (A -F nat 2 *F val c +F val m) /F (H *F H)

      near_2c : Near (two ⊗ c) (nat 2 *F val c) M 4 2
      near_2c = rescale (near_mul near_2 (near_node c hc) (fair (size_mul size_2 r.ranges.c_max) tt tt) tt) 1 2 4 2 (≤F-of-≈F (ring (M ∷ []) (search quote depth 24) tt)) M-fair tt tt tt tt

      bend : Near ((a ⊖ two ⊗ c ⊕ m) ⊘ (v.dr ⊗ v.dr)) curve (M *F I) 31 3
      bend =
          let o : A -F nat 2 *F val c within M *F nat 3 = within_by (A ∷ val m ∷ val c ∷ M ∷ []) 0 (hi w ⊞ up hm.range.upper ⊞ num 2 ⊠ hc.range.lower ⊞ M-low) (lo w ⊞ hm.range.lower ⊞ num 2 ⊠ up hc.range.upper) (search quote depth 24) tt tt in
          let q : A -F nat 2 *F val c +F val m within M *F nat 3 = within_by (A ∷ val m ∷ val c ∷ M ∷ []) 0 (hi w ⊞ num 2 ⊠ up hm.range.upper ⊞ num 2 ⊠ hc.range.lower) (lo w ⊞ num 2 ⊠ hm.range.lower ⊞ num 2 ⊠ up hc.range.upper) (search quote depth 24) tt tt in
          near_div (near_add (near_sub na near_2c 3 o tt) (near_node m hm) 3 q tt) near_hh (fair size_bend tt tt) tt

      shell_scale : t *F (D *F (M *F I)) *F nat 6 ≤F M
      shell_scale = le_by (t ∷ D ∷ M ∷ H ∷ I ∷ []) 0 (up r.conditions.stable ⊠ M-low ⊠ I-low ⊞ eqn (M · mul_inv (size_pos size_hh))) (search quote depth 24) tt

      shell_change : Near (v.dt ⊗ shell_rate v i m c a) (t *F (D *F (curve +F steepness (A -F val m)))) M 11 1
      shell_change =
          let q : curve +F steepness (A -F val m) within M *F I *F nat 4 = within_by (curve ∷ steepness (A -F val m) ∷ (M *F I) ∷ []) 0 (hi bend.size ⊞ hi ns.size) (lo bend.size ⊞ lo ns.size) (search quote depth 24) tt tt in
          let d = near_mul near-D (near_add bend ns 4 q tt) (fair (size_mul r.ranges.d_s size_bend) tt tt) tt in
          near_factor v.dt (mul_rounds v.dt (shell_rate v i m c a) r.ranges.dt_fine d.fine) (within_self r.ranges.dt_low) d M-fair 6 9 1 shell_scale tt tt tt

      shell_near : Near (c ⊕ v.dt ⊗ shell_rate v i m c a) (val c +F t *F (D *F (curve +F steepness (A -F val m)))) M 14 2
      shell_near =
          let h = shell_change in
          near_add (near_node c hc) h 2
          (within_by (val c ∷ (t *F (D *F (curve +F steepness (A -F val m)))) ∷ M ∷ []) 0 (up hc.range.upper ⊞ hi h.size) (hc.range.lower ⊞ lo h.size ⊞ M-low) (search quote depth 24) tt tt) tt

  pub inner_near : (c : ℕ → Float) (i : ℕ) → 1 ≤ i → i ≤ 64 → NodeInRange M (c (i - 1)) → NodeInRange M (c i) → NodeInRange M (c (i + 1))
      → Near (c i ⊕ v.dt ⊗ shell_rate v i (c (i - 1)) (c i) (c (i + 1))) (inner (numbers v) (λ k. val (c k)) i) M 14 2
  unfolding inner g
  inner_near c i l m hm hc ha =
      let x = val (c (i - 1)) in
      let y = val (c i) in
      let z = val (c (i + 1)) in
      let na = rescale (near_node (c (i + 1)) ha) 1 1 9 2 ≤F-refl M-fair tt tt tt tt in
      let w = node_slope (c (i + 1)) (c (i - 1)) ha hm in
      let ns = steep i l m (near_sub (near_node (c (i + 1)) ha) (near_node (c (i - 1)) hm) 1 w tt) 1 l tt tt tt tt tt in
      near_resp (eq_by (t ∷ D ∷ x ∷ y ∷ z ∷ I ∷ inv (nat i *F H) ∷ inv (nat 2 *F H) ∷ inv (nat i) ∷ []) (t *F D *F (z -F x) · steep_is i l m) (search quote depth 24) tt)
      (shell_near i l m (c (i - 1)) (c i) (c (i + 1)) hm hc z na w ns)

  -- ---- the ghost
  abbrev G : Fraction
  G = J *F (nat 2 *F H) /F D

  near-G : Near (two ⊗ v.dr ⊗ v.j_n ⊘ v.d_s) G M 6 1
  near-G =
      let size-DM = size_mul r.ranges.d_s r.ranges.c_max in
      let flux-scale : ∣ J ∣ *F (nat 2 *F H) *F nat 1 ≤F D *F M = le_by (∣ J ∣ ∷ H ∷ D ∷ M ∷ []) 0 (up r.conditions.flux_bound) (search quote depth 24) tt in
      let ghost-scale : D *F M /F D *F nat 1 ≤F M *F nat 1 = le_by (D ∷ M ∷ inv D ∷ []) 0 (eqn (M · mul_inv (size_pos r.ranges.d_s))) (search quote depth 24) tt in
      let a = near_factor v.j_n (rounds_resp (*F-comm (val (two ⊗ v.dr)) J) (mul_rounds (two ⊗ v.dr) v.j_n near_2h.fine r.ranges.j_fine)) (within_abs J) near_2h (fair size-DM tt tt) 1 2 1 flux-scale tt tt tt in
      rescale (near_div a near-D (fair (size_mul size-DM (size_inv r.ranges.d_s)) tt tt) tt) 1 1 6 1 ghost-scale M-fair tt tt tt tt

  near_ghost : (m : Float) → NodeInRange M m → Near (ghost_node v m) (val m +F G) M 9 2
  near_ghost m h = let k = near-G in
      near_add (near_node m h) k 2 (within_by (val m ∷ G ∷ M ∷ []) 0 (up h.range.upper ⊞ hi k.size) (h.range.lower ⊞ lo k.size ⊞ M-low) (search quote depth 24) tt tt) tt

  -- h · 1 / h² is 1 / h
  h_over : H *F I ≈F inv H
  h_over = let h = size_pos r.ranges.dr in
      eq_by (H ∷ I ∷ inv H ∷ []) (H · inv_mul h h & inv H · mul_inv h) (search quote depth 24) tt

  pub surface_near : (c : ℕ → Float) (p : ℕ) → 2 ≤ p → p ≤ 64 → NodeInRange M (c (p - 1)) → NodeInRange M (c p)
      → Near (c p ⊕ v.dt ⊗ shell_rate v p (c (p - 1)) (c p) (ghost_node v (c (p - 1)))) (surface (numbers v) (λ k. val (c k)) p) M 14 2
  unfolding surface g
  surface_near c p l m hm hc =
      let x = val (c (p - 1)) in
      let y = val (c p) in
      let o : 1 ≤ p = omega arith in
      let na = near_ghost (c (p - 1)) hm in
      let w : x +F G -F x within M *F nat 1 = within_resp (ring (x ∷ G ∷ []) (search quote depth 24) tt) near-G.size in
      let ns = steep p o m (near_sub na (near_node (c (p - 1)) hm) 1 w tt) 2 l tt tt tt tt tt in
      let k = nat 1 +F nat 1 /F nat p in
      near_resp (eq_by (t ∷ D ∷ J ∷ x ∷ y ∷ I ∷ inv (nat p *F H) ∷ inv (nat 2 *F H) ∷ inv (nat p) ∷ inv H ∷ inv D ∷ H ∷ [])
      (t *F D *F G · steep_is p o m & nat 2 *F t *F J *F H *F I *F k · mul_inv (size_pos r.ranges.d_s) & nat 2 *F t *F J *F k · h_over) (search quote depth 24) tt)
      (shell_near p o m (c (p - 1)) (c p) (ghost_node v (c (p - 1))) hm hc (x +F G) na w ns)
