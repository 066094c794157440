-- No sub-step in its ranges leaves the finite numbers, whether the demand's conditions hold or not: every node is from 0 to c_max after it. Assumes nothing.
use Rattle.std.specs.Prelude.{ℕ, ◌+◌, ◌-◌, ◌^◌, ◌<◌, ◌≤◌, ◌≡◌, Bool, cond, T, eqb, Float}
use Rattle.std.proofs.Math.Path.{refl}
use Rattle.std.proofs.Math.Bool.{true, false}
use borrow.Author.Tests.{ltb-true, eqb-false}
use Rattle.std.proofs.Common.{le_trans, arith, lit≤}
use Rattle.std.proofs.Math.Dec.{ltb}
use Rattle.std.specs.Float.{nan, inf, fin}
use Rattle.std.specs.Float.Ieee.{le, is_nan, of_bits}
use Rattle.std.specs.Float.Ieee.Fits.{and_i}
use Rattle.std.specs.Float.Ieee.Scale.{finite}
use Rattle.fraction.proofs.Field.{≤F-trans, ≤F-of-≈F, le_of_lt}
use Rattle.fraction.proofs.Size.{size_pos}
use Rattle.binary64.specs.Operators.{◌⊕◌, ◌⊗◌, count}
use Rattle.binary64.specs.Range.{Within, Sized, sized, most_wider}
use Rattle.binary64.proofs.RangeTests.{literal, count_within}
use Rattle.binary64.proofs.RangeOps.{mul_between, mul_most, div_most, add_most, sub_most}
use Rattle.binary64.proofs.Bounds.{within_scaled}
use Rattle.binary64.specs.Value.{val}
use Rattle.binary64.proofs.Value.{val_le}
use Rattle.binary64.specs.Literals.{«0·0»}
use Rattle.min_max.proofs.ChoiceLaws.{clamp_in}
use Rattle.refusal.specs.Ranges.{in_range}
use Rattle.diffusion.specs.SubStep.{SubStepParams, two, six, centre_rate, shell_rate, ghost_node, rate, node}
use Rattle.diffusion.specs.Premises.{NodeInRange, zero_fine, zero_val}
use Rattle.particle_laws.specs.Ranges.{Ranged}
use Rattle.particle_laws.specs.Checked.{node_sized}

at_2 : Within two 2 1 2 1
unfolding of_bits
at_2 = literal two 2 1 2 1 tt tt tt tt tt

at_6 : Within six 6 1 6 1
unfolding of_bits
at_6 = literal six 6 1 6 1 tt tt tt tt tt

pub number : (x : Float) → T (finite x) → is_nan x ≡ false
unfolding is_nan
number nan h = absurd h
number (inf s) h = absurd h
number (fin s m e) h = refl

module _ (v : SubStepParams) (r : Ranged v) (c : ℕ → Float) (nodes : (i : ℕ) → i < v.n → NodeInRange (val v.c_max) (c i)) where
  -- each old node is at most 2 ^ 17
  place_sized : (i : ℕ) → i < v.n → Sized (c i) (2 ^ 17) 1
  place_sized i l = node_sized (nodes i l) r.c_max

  squared : Within (v.dr ⊗ v.dr) 1 (2 ^ 20) 1 (2 ^ 66)
  squared = mul_between r.dr r.dr 1 (2 ^ 20) 1 (2 ^ 66) tt tt tt tt

  doubled : Within (two ⊗ v.dr) 1 (2 ^ 9) 1 (2 ^ 32)
  doubled = mul_between at_2 r.dr 1 (2 ^ 9) 1 (2 ^ 32) tt tt tt tt

  centre_sized : {x y : Float} → Sized x (2 ^ 17) 1 → Sized y (2 ^ 17) 1 → Sized (centre_rate v x y) (2 ^ 296) 1
  centre_sized h k = sized (div_most (mul_most (mul_most at_6.0 r.d_s.0 (2 ^ 22) 1 tt tt) (sub_most k h (2 ^ 18) 1 tt tt) (2 ^ 40) 1 tt tt) squared (2 ^ 296) 1 tt tt tt)

  ghost_sized : {x : Float} → Sized x (2 ^ 17) 1 → Sized (ghost_node v x) (2 ^ 206) 1
  ghost_sized h = add_most h (div_most (mul_most doubled.0 r.j_n (2 ^ 91) 1 tt tt) r.d_s (2 ^ 204) 1 tt tt tt) (2 ^ 206) 1 tt tt

  -- the outer neighbour may be the ghost
  shell_sized : (i : ℕ) → 1 ≤ i → i ≤ 63 → {x y z : Float} → Sized x (2 ^ 17) 1 → Sized y (2 ^ 17) 1 → Sized z (2 ^ 206) 1 → Sized (shell_rate v i x y z) (2 ^ 296) 1
  shell_sized i l m h k g =
      let radius : Within (count i ⊗ v.dr) 1 (2 ^ 4) 1 (2 ^ 33) = mul_between (count_within i 63 1 m l (le_trans m (lit≤ tt))) r.dr 1 (2 ^ 4) 1 (2 ^ 33) tt tt tt tt in
      let bend = div_most (add_most (sub_most g (mul_most at_2.0 k (2 ^ 18) 1 tt tt) (2 ^ 207) 1 tt tt) h (2 ^ 208) 1 tt tt) squared (2 ^ 274) 1 tt tt tt in
      let slope = div_most (sub_most g h (2 ^ 207) 1 tt tt) doubled (2 ^ 239) 1 tt tt tt in
      let turned = mul_most (div_most at_2.0 radius (2 ^ 34) 1 tt tt tt) slope (2 ^ 273) 1 tt tt in
      sized (mul_most r.d_s.0 (add_most bend turned (2 ^ 275) 1 tt tt) (2 ^ 296) 1 tt tt)

  rate_sized : (i : ℕ) → i < v.n → Sized (rate v c i) (2 ^ 296) 1
  unfolding rate
  rate_sized i l = place (eqb i 0) refl
    where
      outer : (b : Bool) → ltb i (v.n - 1) ≡ b → 1 ≤ i → Sized (cond b (c (i + 1)) (ghost_node v (c (i - 1)))) (2 ^ 206) 1
      outer true e m = let k = ltb-true i (v.n - 1) e in most_wider (place_sized (i + 1) (omega arith)) (2 ^ 206) 1 tt tt
      outer false e m = ghost_sized (place_sized (i - 1) (omega arith))

      place : (b : Bool) → eqb i 0 ≡ b → Sized (cond b (centre_rate v (c 0) (c 1)) (shell_rate v i (c (i - 1)) (c i) (cond (ltb i (v.n - 1)) (c (i + 1)) (ghost_node v (c (i - 1)))))) (2 ^ 296) 1
      place true e = let n = r.n_low in centre_sized (place_sized 0 (omega arith)) (place_sized 1 (omega arith))
      place false e =
          let m : 1 ≤ i = positive i (eqb-false i 0 e) in
          let n = r.n_high in
          shell_sized i m (omega arith) (place_sized (i - 1) (omega arith)) (place_sized i l) (outer (ltb i (v.n - 1)) refl m)
        where
          positive : (i : ℕ) → (i ≡ 0 → ⊥) → 1 ≤ i
          positive i h = omega arith

  -- EVERY NODE: finite before the clamp, so from 0 to c_max after it, by the tests of binary64
  pub node_in : (i : ℕ) → i < v.n → T (in_range (node v c i) «0·0» v.c_max)
  unfolding node
  node_in i l =
      let y = add_most (place_sized i l) (mul_most r.dt (rate_sized i l) (2 ^ 313) 1 tt tt) (2 ^ 314) 1 tt tt in
      let s = within_scaled r.c_max 0 17 tt tt in
      let o = val_le «0·0» v.c_max zero_fine s.fine (≤F-trans (≤F-of-≈F zero_val) (le_of_lt (size_pos s.size))) in
      let k = clamp_in (c i ⊕ v.dt ⊗ rate v c i) «0·0» v.c_max (number (c i ⊕ v.dt ⊗ rate v c i) y.fine) (number «0·0» zero_fine) (number v.c_max s.fine) o in
      and_i (le «0·0» (node v c i)) (le (node v c i) v.c_max) k.low k.high
