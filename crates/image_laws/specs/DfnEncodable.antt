-- A Doyle-Fuller-Newman cell of an image that passes the checks can be written into an image, and so can what a step makes of it. Assumes nothing.
use Prim.Native.Nat.{ℕ, zero, suc, ◌≤◌, ◌<◌, ◌+◌, ◌*◌, ◌^◌}
use Rattle.std.specs.Prelude.{◌≡◌, cond, ◌&&◌, List, T, eqb, ltb, length, Float}
use Rattle.std.proofs.Math.Path.{refl}
use Rattle.std.proofs.Common.{◌∙◌, arith, lit≤}
use Rattle.std.specs.Float.Ieee.{binary64, fits, neg}
use Rattle.std.specs.Float.Ieee.Bits.{of_bits-fits}
use Rattle.std.specs.Float.Ieee.Fits.{add-fits, sub-fits, div-fits, cond-fits}
use Rattle.matrix_rows.specs.Loops.{either}
use Rattle.refusal.specs.Numbers.{not_finite_of}
use Rattle.iterate.specs.Iterate.{first_length}
use Rattle.array_update.specs.ArrayUpdate.{places_length}
use Rattle.dfn_parameters.specs.declared.DfnParams.{DfnParams}
use Rattle.dfn_electrolyte.specs.declared.Region.{Region}
use Rattle.dfn_electrolyte.specs.Electrolyte as DE
use Rattle.dfn_solid.specs.declared.ParticleParams.{ParticleParams}
use Rattle.dfn_solid.specs.Solid as DS
use Rattle.dfn_places.specs.Places.{change_after}
use Rattle.dfn_voltage.specs.Voltage.{voltage_of}
use Rattle.dfn.specs.declared.DfnSolver.{DfnSolver}
use Rattle.dfn.specs.declared.DfnStep.{DfnStep}
use Rattle.dfn.specs.Answers.{DfnStepAnswer}
use Rattle.dfn.specs.Checks as DC
use Rattle.dfn.specs.Step as D
use Rattle.codec.specs.Words.{word_at, places_at}
use Rattle.parameter_images.specs.Images.{params_of, params_at, params_numbers, config_at}
use Rattle.dfn_images.specs.Images.{cell_at, report_numbers}
use Rattle.dfn_calls.specs.Steps.{electrolyte_after}
use Rattle.image_laws.specs.Encodable.{EncodableRow, []ᵉ, ◌∷ᵉ◌, first_encodable, places_by-encodable, clamp_fits, max_fits, abs_fits, literal, float_encodable, places_encodable, places_count}
use Rattle.image_laws.specs.DfnImages.{EncodableParams, EncodableGrid, EncodableDfn}
use Rattle.binary64.specs.Literals.{«0·0», «5·0»}
use Rattle.image_layout.specs.Layout.{dfn_cathode, dfn_electrolyte, dfn_clock, dfn_voltage, dfn_current, dfn_theta_neg, dfn_theta_pos}

-- ---- a Doyle-Fuller-Newman cell that passes the checks
numbers_of : (x : List Float) (n : ℕ) (a : List Float) (m : ℕ) (c : List Float) → EncodableRow x → EncodableRow (params_numbers (params_of x n a m c))
unfolding params_numbers params_of
numbers_of x n a m c h =
    h.place 0 ∷ᵉ h.place 1 ∷ᵉ h.place 2 ∷ᵉ h.place 3 ∷ᵉ h.place 4 ∷ᵉ h.place 5 ∷ᵉ h.place 6 ∷ᵉ h.place 7 ∷ᵉ h.place 8 ∷ᵉ h.place 9 ∷ᵉ h.place 10
    ∷ᵉ h.place 11 ∷ᵉ h.place 12 ∷ᵉ h.place 13 ∷ᵉ h.place 14 ∷ᵉ h.place 15 ∷ᵉ h.place 16 ∷ᵉ h.place 17 ∷ᵉ h.place 18 ∷ᵉ h.place 19 ∷ᵉ h.place 20
    ∷ᵉ h.place 21 ∷ᵉ h.place 22 ∷ᵉ h.place 23 ∷ᵉ h.place 24 ∷ᵉ []ᵉ

pub params_at-encodable : (s : List ℕ) → (params_at s).ocv_neg_count ≤ 16 → (params_at s).ocv_pos_count ≤ 16 → EncodableParams (params_at s)
unfolding params_at params_of
params_at-encodable s n m = record {
  numbers = numbers_of (places_at 25 s 0) (word_at s 25) (places_at 16 s 26) (word_at s 42) (places_at 16 s 43) (places_encodable 25 s 0);
  neg = omega (arith, n);
  neg_long = places_count 16 s 26;
  neg_places = places_encodable 16 s 26;
  pos = omega (arith, m);
  pos_long = places_count 16 s 43;
  pos_places = places_encodable 16 s 43;
}

pub grid_at-encodable : (s : List ℕ) → DC.Grid (config_at s) → EncodableGrid (config_at s)
unfolding config_at
grid_at-encodable s g = record { neg = omega (arith, g.most_neg); pos = omega (arith, g.most_pos); radial = omega (arith, g.most_r); least = float_encodable s 62; most = float_encodable s 63 }

pub dfn_at-encodable : (s : List ℕ) → DC.cell_refusal (cell_at s) ≡ 0 → EncodableDfn (cell_at s)
unfolding cell_at
dfn_at-encodable s h =
    let m = DC.cell_valid (cell_at s) h in
    record {
      params = params_at-encodable s m.coeffs_neg m.coeffs_pos;
      grid = grid_at-encodable s m.nodes;
      neg_long = places_count 512 s 64;
      neg_places = places_encodable 512 s 64;
      pos_long = places_count 512 s dfn_cathode;
      pos_places = places_encodable 512 s dfn_cathode;
      electrolyte_long = places_count 33 s dfn_electrolyte;
      electrolyte_places = places_encodable 33 s dfn_electrolyte;
      last = float_encodable s dfn_clock ∷ᵉ float_encodable s dfn_voltage ∷ᵉ float_encodable s dfn_current ∷ᵉ float_encodable s dfn_theta_neg ∷ᵉ float_encodable s dfn_theta_pos ∷ᵉ []ᵉ;
    }

-- ---- and a step of it
electrolyte_node : (u v : Region) (c d : List Float) → EncodableRow c → (i : ℕ) → T (fits binary64 (DE.node_with u v c d i))
unfolding DE.node_with DE.moved_with
electrolyte_node u v c d h i =
    cond-fits binary64 (ltb 0 i && ltb (i + 1) u.n) _ _ (add-fits binary64 _ _)
    (cond-fits binary64 (ltb u.n i && ltb (i + 1) (u.n + 1 + v.n)) _ _ (add-fits binary64 _ _) (h.place i))

electrolyte_encodable : (u v : Region) (c d : List Float) → EncodableRow c → EncodableRow (DE.nodes_with u v c d)
unfolding DE.nodes_with
electrolyte_encodable u v c d h = first_encodable _ _ c (λ i. clamp_fits (DE.node_with u v c d i) _ _ (electrolyte_node u v c d h i) (of_bits-fits binary64 _) (of_bits-fits binary64 _)) h

electrolyte_long : (u v : Region) (c d : List Float) → length (DE.nodes_with u v c d) ≡ length c
unfolding DE.nodes_with
electrolyte_long u v c d = first_length _ c _

module _ (v : ParticleParams) (c d : List Float) (f : T (fits binary64 v.c_max)) (h : EncodableRow c) where
  inner_encodable : (k i : ℕ) → T (fits binary64 (DS.inner_with v c d k i))
  unfolding DS.inner_with
  inner_encodable k i = add-fits binary64 _ _

  centre_encodable : (base : ℕ) → T (fits binary64 (DS.centre_with v c d base))
  unfolding DS.centre_with
  centre_encodable base = cond-fits binary64 (eqb v.n 2) _ _ (h.place (base + 1)) (inner_encodable (base + 1) 1)

  surface_encodable : (k : ℕ) → T (fits binary64 (DS.surface_with v c d k))
  unfolding DS.surface_with
  surface_encodable k = sub-fits binary64 _ _

  solid_node : (base i : ℕ) → T (fits binary64 (DS.node_with v c d base i))
  unfolding DS.node_with
  solid_node base i = cond-fits binary64 (eqb i 0) _ _ (centre_encodable base) (cond-fits binary64 (ltb (i + 1) v.n) _ _ (inner_encodable (base + i) i) (surface_encodable (base + i)))

  particles_encodable : (m : ℕ) → EncodableRow (DS.particles_with v c d m)
  unfolding DS.particles_with DS.particle_with
  particles_encodable zero = h
  particles_encodable (suc m) =
      places_by-encodable (m * v.n) v.n (DS.clamped_node v c d (m * v.n)) (DS.particles_with v c d m)
      (λ i. clamp_fits (DS.node_with v c d (m * v.n) i) «0·0» v.c_max (solid_node (m * v.n) i) (of_bits-fits binary64 0) f) (particles_encodable m)

  particles_long : (m : ℕ) → length (DS.particles_with v c d m) ≡ length c
  unfolding DS.particles_with DS.particle_with
  particles_long zero = refl
  particles_long (suc m) = places_length (m * v.n) (DS.clamped_node v c d (m * v.n)) (DS.particles_with v c d m) v.n ∙ particles_long m

voltage_fits : (p : DfnParams) (a b mid i : Float) → T (fits binary64 (voltage_of p a b mid i))
unfolding voltage_of
voltage_fits p a b mid i = clamp_fits _ «0·0» «5·0» (add-fits binary64 _ _) (of_bits-fits binary64 _) (of_bits-fits binary64 _)

neg_most : (p : DfnParams) → EncodableRow (params_numbers p) → T (fits binary64 p.c_s_neg_max)
unfolding params_numbers
neg_most p h = h.place 6

pos_most : (p : DfnParams) → EncodableRow (params_numbers p) → T (fits binary64 p.c_s_pos_max)
unfolding params_numbers
pos_most p h = h.place 12

dfn_moved : (d : DfnSolver) (i dt : Float) → T (fits binary64 i) → EncodableDfn d → EncodableDfn (D.cell_with d (D.moved_by d i dt) (D.report_of d (D.moved_by d i dt) i dt))
unfolding D.cell_with D.moved_by D.report_of DS.solid_after DE.electrolyte_after
dfn_moved d i dt f h = record {
  params = h.params;
  grid = h.grid;
  neg_long = particles_long _ d.c_s_neg _ (neg_most d.params h.params.numbers) h.neg_places _ ∙ h.neg_long;
  neg_places = particles_encodable _ d.c_s_neg _ (neg_most d.params h.params.numbers) h.neg_places _;
  pos_long = particles_long _ d.c_s_pos _ (pos_most d.params h.params.numbers) h.pos_places _ ∙ h.pos_long;
  pos_places = particles_encodable _ d.c_s_pos _ (pos_most d.params h.params.numbers) h.pos_places _;
  electrolyte_long = electrolyte_long _ _ d.c_e _ ∙ h.electrolyte_long;
  electrolyte_places = electrolyte_encodable _ _ d.c_e _ h.electrolyte_places;
  last = add-fits binary64 _ _ ∷ᵉ voltage_fits d.params _ _ _ i ∷ᵉ f ∷ᵉ div-fits binary64 _ _ ∷ᵉ div-fits binary64 _ _ ∷ᵉ []ᵉ;
}

pub dfn_step_encodable : (d : DfnSolver) (i dt : Float) → T (fits binary64 i) → EncodableDfn d → EncodableDfn (D.stepped d i dt).cell
unfolding D.stepped D.advanced D.followed D.answered
dfn_step_encodable d i dt f h =
    let r = D.report_of d (D.moved_by d i dt) i dt in
    let new = D.cell_with d (D.moved_by d i dt) r in
    let all : DfnStepAnswer = record { refusal = 0; report = r; cell = new } in
    let P : DfnStepAnswer → Type 0 = λ a. EncodableDfn a.cell in
    either P (eqb (DC.step_refusal d i dt) 0) (cond (D.all_numbers new r) all (D.refused_with not_finite_of d)) (D.refused_with (DC.step_refusal d i dt) d)
    (either P (D.all_numbers new r) all (D.refused_with not_finite_of d) (dfn_moved d i dt f h) h) h

-- ---- and its report
change_fits : (new old : List Float) (k : ℕ) → T (fits binary64 (change_after new old k))
unfolding change_after
change_fits new old zero = of_bits-fits binary64 0
change_fits new old (suc k) = max_fits (change_after new old k) _ (change_fits new old k) (abs_fits _ (sub-fits binary64 _ _))

moved_report : (d : DfnSolver) (i dt : Float) → T (fits binary64 i) → EncodableRow (report_numbers (D.report_of d (D.moved_by d i dt) i dt))
unfolding D.report_of D.moved_by DS.solid_after
moved_report d i dt f =
    voltage_fits d.params _ _ _ i ∷ᵉ f ∷ᵉ add-fits binary64 _ _ ∷ᵉ div-fits binary64 _ _ ∷ᵉ div-fits binary64 _ _ ∷ᵉ change_fits _ _ _ ∷ᵉ []ᵉ

-- the report of an accepted step
pub record EncodableReport (r : DfnStep) : Type 0 where
  pub numbers : EncodableRow (report_numbers r)
  pub count : r.newton_iter < 2 ^ 64

pub dfn_report_encodable : (d : DfnSolver) (i dt : Float) → T (fits binary64 i) → EncodableReport (D.stepped d i dt).report
unfolding D.stepped D.advanced D.followed D.answered D.report_of D.no_report
dfn_report_encodable d i dt f =
    let r = D.report_of d (D.moved_by d i dt) i dt in
    let new = D.cell_with d (D.moved_by d i dt) r in
    let all : DfnStepAnswer = record { refusal = 0; report = r; cell = new } in
    let P : DfnStepAnswer → Type 0 = λ a. EncodableReport a.report in
    let none : EncodableReport D.no_report = record { numbers = literal _ ∷ᵉ literal _ ∷ᵉ literal _ ∷ᵉ literal _ ∷ᵉ literal _ ∷ᵉ literal _ ∷ᵉ []ᵉ; count = lit≤ tt } in
    either P (eqb (DC.step_refusal d i dt) 0) (cond (D.all_numbers new r) all (D.refused_with not_finite_of d)) (D.refused_with (DC.step_refusal d i dt) d)
    (either P (D.all_numbers new r) all (D.refused_with not_finite_of d) (record { numbers = moved_report d i dt f; count = lit≤ tt }) none) none
