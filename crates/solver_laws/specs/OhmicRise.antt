-- Resistance lifts the terminal voltage on charge: of two cells that differ in the electrolyte's resistance alone, an accepted step at a current of at most 0 leaves the one with the larger
-- resistance at the higher voltage, or at the same; at a current of at least 0 at the lower. Assumes nothing.
use Rattle.std.specs.Prelude.{◌≡◌, refl, [], ◌∷◌, Float}
use Rattle.std.proofs.Common.{sym, ◌∙◌, arith}
use Rattle.std.proofs.Math.Path.{subst₂}
use Rattle.std.proofs.Math.Dec.{T}
use Rattle.std.specs.Float.Ieee.{le}
use Rattle.std.specs.Float.Ieee.Scale.{finite}
use Rattle.fraction.specs.Fraction.{nat, inv, ◌/F◌, ◌≤F◌, ◌<F◌}
use Rattle.fraction.proofs.Field.{≤F-trans, ≤F-of-≈F, ≈F-sym}
use Rattle.fraction.proofs.Certificate.{quote}
use Rattle.fraction.proofs.Certificate.{le_by, up, ◌⊠◌}
use Rattle.fraction.proofs.Inverse.{inv_nn}
use Rattle.binary64.specs.Operators.{◌⊖◌, ◌⊗◌, ◌⊘◌}
use Rattle.binary64.specs.Literals.{«0·0»}
use Rattle.binary64.proofs.Rounds.{Rounds, mul_rounds, div_rounds}
use Rattle.binary64.specs.Value.{val}
use Rattle.binary64.proofs.Value.{le_val}
use Rattle.binary64.proofs.OrderLaws.{rounds_le, rounds_nonneg, rounds_nonpos, positive-finite, positive_num, sub_ge}
use Rattle.diffusion.specs.Premises.{zero_fine, zero_val}
use Rattle.kinetics.specs.Kinetics.{overpotential}
use Rattle.solver.specs.declared.SpmSolver.{SpmSolver}
use Rattle.solver.specs.Answers.{SpmStepAnswer}
use Rattle.solver_step.specs.Plans.{plan_refusal}
use Rattle.solver.specs.Step.{input_refusal, current_density, plan_of, advanced, voltage_of, reported, stepped}
use Rattle.solver_laws.specs.Electrodes.{electrode_passes, config_passed, config_ranges, area_above, density_range, cell_passed, current_fits_lem, temperature_fits_lem, fluxes_range}
use Rattle.solver_laws.specs.Closure.{next, Leads, leads}
use Rattle.solver_laws.specs.Acceptance.{electrode_voltage, ohmic_drop, voltage_is, electrodes_sized, drop_sized, next_electrode, next_config}

-- the cell with this resistance
abbrev pub with_resistance : SpmSolver → Float → SpmSolver
with_resistance s r = record {
  config = record {
    n_nodes = s.config.n_nodes;
    v_min = s.config.v_min;
    v_max = s.config.v_max;
    faraday = s.config.faraday;
    r_gas = s.config.r_gas;
    r_electrolyte_ohm_m2 = r;
  };
  anode = s.anode;
  cathode = s.cathode;
  time_s = s.time_s;
}

-- ---- the drop at two resistances
module _ (d r q : Float) (D : T (finite d)) (R : T (finite r)) (Q : T (finite q)) (h : T (le r q)) where
  drop_ge : val d ≤F nat 0 → T (le (d ⊗ q) (d ⊗ r))
  drop_ge n = rounds_le (mul_rounds d q D Q) (mul_rounds d r D R) (le_by (val d ∷ val r ∷ val q ∷ []) 0 (up (le_val r q R Q h) ⊠ up n) (search quote depth 24) tt)

  drop_le : nat 0 ≤F val d → T (le (d ⊗ r) (d ⊗ q))
  drop_le n = rounds_le (mul_rounds d r D R) (mul_rounds d q D Q) (le_by (val d ∷ val r ∷ val q ∷ []) 0 (up (le_val r q R Q h) ⊠ n) (search quote depth 24) tt)

-- ---- the current density has the current's sign
module _ (i a : Float) (I : T (finite i)) (A : nat 0 <F val a) (D : T (finite (i ⊘ a))) where
  abbrev density_rounds : Rounds (val i /F val a) (i ⊘ a)
  density_rounds = div_rounds i a I (positive-finite a A) (positive_num a A)

  density_nonpos : T (le i «0·0») → val (i ⊘ a) ≤F nat 0
  density_nonpos h =
      let l = ≤F-trans (le_val i «0·0» I zero_fine h) (≤F-of-≈F zero_val) in
      rounds_nonpos density_rounds D (le_by (val i ∷ inv (val a) ∷ []) 0 (up l ⊠ inv_nn A) (search quote depth 24) tt)

  density_nonneg : T (le «0·0» i) → nat 0 ≤F val (i ⊘ a)
  density_nonneg h =
      let l = ≤F-trans (≤F-of-≈F (≈F-sym zero_val)) (le_val «0·0» i zero_fine I h) in
      rounds_nonneg density_rounds D (le_by (val i ∷ inv (val a) ∷ []) 0 (l ⊠ inv_nn A) (search quote depth 24) tt)

-- ---- what the voltage of an accepted step is made of, all of it finite
record Parts (s : SpmSolver) (i dt t : Float) : Type 0 where
  voltage : (stepped s i dt t).state.voltage ≡ electrode_voltage (next s i dt t) (plan_of s i dt t) t ⊖ ohmic_drop s i
  electrodes : T (finite (electrode_voltage (next s i dt t) (plan_of s i dt t) t))
  drop : T (finite (ohmic_drop s i))
  density : T (finite (current_density s i))
  resistance : T (finite s.config.r_electrolyte_ohm_m2)
  current : T (finite i)
  area : nat 0 <F val s.anode.params.area

module _ (s : SpmSolver) (i dt t : Float) where
  accepted : (a : SpmStepAnswer) → Leads s i dt t a → a.refusal ≡ 0
      → (input_refusal s i dt t ≡ 0) × (plan_refusal (plan_of s i dt t) ≡ 0) × (a.state.voltage ≡ voltage_of (next s i dt t) (plan_of s i dt t) i t)
  unfolding reported
  accepted a (Leads.refused k) z = absurd (omega (arith, z))
  accepted a (Leads.moved h g f) z = (h, g, refl)

  parts : (stepped s i dt t).refusal ≡ 0 → Parts s i dt t
  unfolding advanced current_density
  parts z =
      let m = accepted (stepped s i dt t) (leads s i dt t) z in
      let h = m.0 in
      let k = cell_passed s i dt t h in
      let c = current_fits_lem s i dt t h in
      let flux = fluxes_range s k i dt t c in
      record {
        voltage = m.2 ∙ voltage_is (next s i dt t) (plan_of s i dt t) i t;
        electrodes = (electrodes_sized (next s i dt t) (next_electrode s i dt t h m.1) (next_config s i dt t h m.1) (plan_of s i dt t) t flux.0 flux.1 (temperature_fits_lem s i dt t h)).fine;
        drop = (drop_sized s (electrode_passes s k) (config_passed s k) i c).fine;
        density = (density_range s k i c).fine;
        resistance = (config_ranges s.config (config_passed s k)).resistance.fine;
        current = c.fine;
        area = area_above s k;
      }

-- ---- the voltage by the resistance
module _ (s : SpmSolver) (i dt t : Float) where
  abbrev pub AcceptedAt : Float → Type 0
  AcceptedAt r = (stepped (with_resistance s r) i dt t).refusal ≡ 0

  abbrev pub voltage_at : Float → Float
  voltage_at r = (stepped (with_resistance s r) i dt t).state.voltage

  abbrev area : Float
  area = s.anode.params.area

  -- the electrodes give the same at any, so what is taken from it decides
  by_drops : (r q : Float) → AcceptedAt r → AcceptedAt q → T (le (current_density s i ⊗ q) (current_density s i ⊗ r)) → T (le (voltage_at r) (voltage_at q))
  unfolding advanced plan_of current_density overpotential
  by_drops r q R Q l =
      let a = parts (with_resistance s r) i dt t R in
      let b = parts (with_resistance s q) i dt t Q in
      let v = electrode_voltage (next (with_resistance s r) i dt t) (plan_of (with_resistance s r) i dt t) t in
      subst₂ (λ (y z : Float). T (le y z)) (sym a.voltage) (sym b.voltage) (sub_ge v (current_density s i ⊗ q) (current_density s i ⊗ r) a.electrodes b.drop a.drop l)

  -- ON CHARGE it rises with the resistance
  pub charge_rises : (r q : Float) → AcceptedAt r → AcceptedAt q → T (le r q) → T (le i «0·0») → T (le (voltage_at r) (voltage_at q))
  unfolding current_density
  charge_rises r q R Q h n =
      let a = parts (with_resistance s r) i dt t R in
      let b = parts (with_resistance s q) i dt t Q in
      by_drops r q R Q (drop_ge (current_density s i) r q a.density a.resistance b.resistance h (density_nonpos i area a.current a.area a.density n))

  -- ON DISCHARGE it falls
  pub discharge_falls : (r q : Float) → AcceptedAt r → AcceptedAt q → T (le r q) → T (le «0·0» i) → T (le (voltage_at q) (voltage_at r))
  unfolding current_density
  discharge_falls r q R Q h n =
      let a = parts (with_resistance s r) i dt t R in
      let b = parts (with_resistance s q) i dt t Q in
      by_drops q r Q R (drop_le (current_density s i) r q a.density a.resistance b.resistance h (density_nonneg i area a.current a.area a.density n))
