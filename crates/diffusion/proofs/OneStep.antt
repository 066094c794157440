-- One sub-step in binary64 against the exact one from the same profile: every node is finite, from 0 to M, and within 14·M / 2 ^ 53 of the exact node.
use Rattle.std.specs.Prelude.{ℕ, ◌+◌, ◌-◌, ◌<◌, ◌≤◌, ◌≡◌, List, map, length, get_or, Float}
use Rattle.std.proofs.Math.Path.{fun_ext}
use Rattle.std.proofs.Common.{le_refl, arith}
use Rattle.std.proofs.lemmas.List.{length-map}
use Rattle.std.specs.Float.{nan}
use Rattle.fraction.specs.Fraction.{Fraction, nat, ◌-F◌, ◌*F◌, clamp_f, ◌≤F◌, ◌within◌}
use Rattle.fraction.proofs.Field.{≈F-refl, ≈F-sym, +F-cong, ≤F-of-≈F, ≤F-trans, le_of_lt}
use Rattle.fraction.proofs.Clamp.{clamp_apart, clamp_between}
use Rattle.fraction.proofs.Size.{size_pos}
use Rattle.fraction.proofs.Within.{within_resp}
use Rattle.binary64.specs.Operators.{◌⊕◌, ◌⊗◌}
use Rattle.binary64.specs.Error.{u, Close}
use Rattle.binary64.proofs.Near.{Near}
use Rattle.binary64.proofs.OrderLaws.{positive-finite}
use Rattle.binary64.specs.Value.{val}
use Rattle.binary64.specs.Literals.{«0·0»}
use Rattle.diffusion.specs.SubStep.{SubStepParams, shell_rate, ghost_node, rate, node, sub_step}
use Rattle.diffusion.specs.Exact.{Numbers, numbers, moved, exact_node, exact_step}
use Rattle.diffusion.proofs.ExactLaws.{moved_inner, moved_surface}
use Rattle.diffusion.specs.Premises.{Ready, NodeInRange, ProfileInRange, zero_fine, zero_val}
use Rattle.diffusion.specs.Places.{by_place, other_place, before_place, from_place}
use Rattle.diffusion.proofs.Profile.{step_length, step_place, exact_place_lem, values_at}
use Rattle.diffusion.proofs.Chain.{centre_near, inner_near, surface_near}
use Rattle.diffusion.proofs.ClampValue.{Clamped, clamp_value}

-- which rate is which
module _ (v : SubStepParams) (c : ℕ → Float) where
  rate_inner : (i : ℕ) → 1 ≤ i → i + 1 < v.n → rate v c i ≡ shell_rate v i (c (i - 1)) (c i) (c (i + 1))
  unfolding rate
  rate_inner i l m = rw (other_place i 0 (λ q. absurd (omega (arith, q))), before_place i (v.n - 1) (omega arith))

  rate_surface : 3 ≤ v.n → rate v c (v.n - 1) ≡ shell_rate v (v.n - 1) (c (v.n - 1 - 1)) (c (v.n - 1)) (ghost_node v (c (v.n - 1 - 1)))
  unfolding rate
  rate_surface l = rw (other_place (v.n - 1) 0 (λ q. absurd (omega (arith, q))), from_place (v.n - 1) (v.n - 1) (le_refl (v.n - 1)))

module _ (v : SubStepParams) (r : Ready v) (c : ℕ → Float) (nodes : (i : ℕ) → i < v.n → NodeInRange (val v.c_max) (c i)) where
  abbrev M : Fraction
  M = val v.c_max

  abbrev e : Numbers
  e = numbers v

  abbrev x : ℕ → Fraction
  x i = val (c i)

  -- 14·M / 2 ^ 53
  abbrev E : Fraction
  E = M *F (nat 14 *F u)

  close : {y : Float} {q : Fraction} {b : ℕ} → Near y q M 14 b → Close y q E
  close h = record { fine = h.fine; near = h.error }

  centre_close : Close (c 0 ⊕ v.dt ⊗ rate v c 0) (moved e x 0) E
  unfolding rate moved
  centre_close = let n = r.ranges.n_low in close (centre_near v r c (nodes 0 (omega arith)) (nodes 1 (omega arith)))

  -- before the clamp
  raw_close : (i : ℕ) → i < v.n → Close (c i ⊕ v.dt ⊗ rate v c i) (moved e x i) E
  raw_close =
      let n = r.ranges.n_low in
      let m = r.ranges.n_high in
      by_place (λ i. Close (c i ⊕ v.dt ⊗ rate v c i) (moved e x i) E) v.n n centre_close
      (λ i k l. rw (rate_inner v c i k l, moved_inner e x i k l) (close (inner_near v r c i k (omega arith) (nodes (i - 1) (omega arith)) (nodes i (omega arith)) (nodes (i + 1) l))))
      (rw (rate_surface v c n, moved_surface e x n) (close (surface_near v r c (v.n - 1) (omega arith) (omega arith) (nodes (v.n - 1 - 1) (omega arith)) (nodes (v.n - 1) (omega arith)))))

  M-low : nat 0 ≤F M
  M-low = le_of_lt (size_pos r.ranges.c_max)

  clamped : (i : ℕ) → i < v.n → Clamped (node v c i) (clamp_f (nat 0) M (val (c i ⊕ v.dt ⊗ rate v c i)))
  unfolding node
  clamped i l = clamp_value (c i ⊕ v.dt ⊗ rate v c i) «0·0» v.c_max (nat 0) (raw_close i l).fine zero_fine (positive-finite v.c_max (size_pos r.ranges.c_max)) zero_val M-low

  pub node_in_range : (i : ℕ) → i < v.n → NodeInRange M (node v c i)
  node_in_range i l =
      let k = clamped i l in
      let b = clamp_between (val (c i ⊕ v.dt ⊗ rate v c i)) M-low in
      record { fine = k.fine; range = record { lower = ≤F-trans b.lower (≤F-of-≈F (≈F-sym k.is)); upper = ≤F-trans (≤F-of-≈F k.is) b.upper } }

  pub node_near : (i : ℕ) → i < v.n → val (node v c i) -F exact_node e x i within E
  unfolding exact_node
  node_near i l = within_resp (+F-cong (≈F-sym (clamped i l).is) ≈F-refl)
      (clamp_apart (nat 0) M (val (c i ⊕ v.dt ⊗ rate v c i)) (moved e x i) (raw_close i l).near)

-- ONE SUB-STEP
module _ (v : SubStepParams) (r : Ready v) (c : List Float) (w : ProfileInRange v.n (val v.c_max) c) where
  pub sub_step_in_range : ProfileInRange v.n (val v.c_max) (sub_step v c)
  sub_step_in_range = record {
    long = rw (step_length v c) w.long;
    nodes = λ i l. rw (step_place v c i l w.long) (node_in_range v r (λ k. get_or c k nan) w.nodes i l);
  }

  pub sub_step_near : (i : ℕ) → i < v.n → val (get_or (sub_step v c) i nan) -F get_or (exact_step (numbers v) (map val c)) i (nat 0) within val v.c_max *F (nat 14 *F u)
  sub_step_near i l =
      let long : v.n ≤ length (map val c) = rw (length-map c val) w.long in
      rw (step_place v c i l w.long, exact_place_lem (numbers v) (map val c) i l long, fun_ext (values_at c)) (node_near v r (λ k. get_or c k nan) w.nodes i l)
