-- The answer of an accepted build of an electrolyte or a Doyle-Fuller-Newman cell is read back as what was built. Assumes nothing.
use Prim.Native.Nat.{ℕ, ◌≤◌}
use Rattle.std.specs.Prelude.{◌≡◌, ◌&&◌, List, T, length}
use Rattle.std.proofs.Math.Path.{refl}
use Rattle.std.proofs.Common.{arith, zero-lt-suc, eq-eqb}
use Rattle.std.specs.Float.{binary64}
use Rattle.std.specs.Float.Ieee.Fits.{mul-fits, and_l}
use Rattle.binary64.specs.Operators.{◌⊗◌}
use Rattle.refusal.specs.Numbers.{grid, sheet, neither_refused, passed}
use Rattle.arrays.specs.Places.{filled}
use Rattle.electrolyte.specs.declared.ElectrolyteState.{ElectrolyteState}
use Rattle.electrolyte.specs.Answers.{ElectrolyteAnswer}
use Rattle.electrolyte.specs.State.{total, with_profile}
use Rattle.electrolyte.specs.Calls as E
use Rattle.electrolyte.specs.Accepted as EA
use Rattle.dfn_parameters.specs.declared.DfnParams.{DfnParams}
use Rattle.dfn_parameters.specs.declared.DfnConfig.{DfnConfig}
use Rattle.dfn_parameters.specs.Ranges.{parameters_fit, grid_fits, limits_fit}
use Rattle.dfn.specs.Checks as DC
use Rattle.dfn.specs.Answers.{DfnBuildAnswer}
use Rattle.dfn.specs.Build as D
use Rattle.image_rows.specs.Written.{written}
use Rattle.electrolyte_images.specs.Images.{electrolyte_at, region_numbers, electrolyte_params_numbers}
use Rattle.parameter_images.specs.Images.{params_at, params_numbers}
use Rattle.parameter_images.specs.Images as G
use Rattle.dfn_images.specs.Images.{cell_at}
use Rattle.image_builds.specs.Builds.{electrolyte_built, dfn_made, new_return, new_after}
use Rattle.image_laws.specs.Accepted.{inputs_pass, accepted_is}
use Rattle.image_laws.specs.Encodable.{EncodableRow, []ᵉ, ◌∷ᵉ◌, filled_encodable, filled_length, literal, places_encodable}
use Rattle.image_laws.specs.Layout.{Holds, holds_alone}
use Rattle.image_laws.specs.ElectrolyteImages.{electrolyte_words, EncodableElectrolyte, electrolyte_layout}
use Rattle.image_laws.specs.DfnImages.{EncodableParams, EncodableGrid, EncodableDfn, dfn_layout}
use Rattle.image_laws.specs.ElectrolyteSteps.{electrolyte_params_at-encodable}
use Rattle.image_laws.specs.DfnEncodable.{params_at-encodable, grid_at-encodable}
use Rattle.image_layout.specs.Layout.{electrolyte_bytes, dfn_bytes, electrolyte_regions, dfn_report}
use Rattle.iterate.specs.Iterate.{first_by}

-- ---- an electrolyte
module _ (e : ElectrolyteState) (hs : EncodableRow (electrolyte_params_numbers e.params)) (hr : EncodableRow (region_numbers e)) where
  filled_state : E.build_refusal e ≡ 0 → EncodableElectrolyte (with_profile e (filled 96 e.params.c_e_init (total e)))
  filled_state q =
      let n = EA.build_total e q in
      record {
        c_e_of = hs;
        regions = hr;
        neg = omega (arith, n);
        sep = omega (arith, n);
        pos = omega (arith, n);
        long = filled_length 96 (total e) e.params.c_e_init;
        places = filled_encodable 96 (total e) e.params.c_e_init (hs.place 4);
      }

  electrolyte_encodable : (E.built e).refusal ≡ 0 → EncodableElectrolyte (E.built e).state
  unfolding E.built
  electrolyte_encodable z =
      let refusal : ElectrolyteAnswer → ℕ = λ x. x.refusal in
      rw (accepted_is refusal (E.build_refusal e) (E.answer 0 (with_profile e (filled 96 e.params.c_e_init (total e)))) _ refl z)
      (filled_state (inputs_pass refusal (E.build_refusal e) _ _ refl z))

-- call 11
module _ (s a : List ℕ) (h : new_return 11 s ≡ 0) where
  new_electrolyte : EncodableElectrolyte (electrolyte_built s).state
  unfolding new_return electrolyte_built first_by
  new_electrolyte =
      electrolyte_encodable _ (electrolyte_params_at-encodable s) (places_encodable 6 s electrolyte_regions) h

  pub electrolyte_built_lem : electrolyte_bytes ≤ length a → Holds electrolyte_words electrolyte_at a (new_after 11 s a) (electrolyte_built s).state
  unfolding new_return new_after written
  electrolyte_built_lem l = rw (eq-eqb (electrolyte_built s).refusal 0 h) (holds_alone electrolyte_layout a (electrolyte_built s).state new_electrolyte l)

-- ---- a Doyle-Fuller-Newman cell
dfn_valid : (p : DfnParams) (g : DfnConfig) → D.new_refusal p g ≡ 0 → T (grid_fits g) × T (parameters_fit p)
unfolding D.new_refusal
dfn_valid p g h =
    let m = neither_refused _ _ h in
    (passed (grid_fits g) grid (zero-lt-suc 0) m.0, and_l (parameters_fit p) (limits_fit g) (passed (parameters_fit p && limits_fit g) sheet (zero-lt-suc 1) m.1))

dfn_fresh : (p : DfnParams) (g : DfnConfig) → EncodableParams p → EncodableGrid g → EncodableDfn (D.fresh p g)
unfolding D.fresh params_numbers
dfn_fresh p g h k = record {
  params = h;
  grid = k;
  neg_long = filled_length 512 (DC.used_neg g) (p.theta_neg_0 ⊗ p.c_s_neg_max);
  neg_places = filled_encodable 512 (DC.used_neg g) (p.theta_neg_0 ⊗ p.c_s_neg_max) (mul-fits binary64 p.theta_neg_0 p.c_s_neg_max);
  pos_long = filled_length 512 (DC.used_pos g) (p.theta_pos_0 ⊗ p.c_s_pos_max);
  pos_places = filled_encodable 512 (DC.used_pos g) (p.theta_pos_0 ⊗ p.c_s_pos_max) (mul-fits binary64 p.theta_pos_0 p.c_s_pos_max);
  electrolyte_long = filled_length 33 (DC.used_electrolyte g) p.c_e0;
  electrolyte_places = filled_encodable 33 (DC.used_electrolyte g) p.c_e0 (h.numbers.place 16);
  last = literal _ ∷ᵉ literal _ ∷ᵉ literal _ ∷ᵉ h.numbers.place 8 ∷ᵉ h.numbers.place 14 ∷ᵉ []ᵉ;
}

dfn_encodable : (s : List ℕ) → (D.made (params_at s) (G.config_at s)).refusal ≡ 0 → EncodableDfn (D.made (params_at s) (G.config_at s)).cell
unfolding D.made
dfn_encodable s z =
    let p = params_at s in
    let g = G.config_at s in
    let refusal : DfnBuildAnswer → ℕ = λ x. x.refusal in
    let m = dfn_valid p g (inputs_pass refusal (D.new_refusal p g) _ _ refl z) in
    let n = DC.coefficients_valid p m.1 in
    rw (accepted_is refusal (D.new_refusal p g) (record { refusal = 0; cell = D.fresh p g }) _ refl z)
    (dfn_fresh p g (params_at-encodable s n.0 n.1) (grid_at-encodable s (DC.grid_valid g m.0)))

-- call 12
module _ (s a : List ℕ) (h : new_return 12 s ≡ 0) where
  new_dfn : EncodableDfn (dfn_made s).cell
  unfolding new_return dfn_made
  new_dfn = dfn_encodable s h

  pub dfn_built : dfn_bytes ≤ length a → Holds dfn_report cell_at a (new_after 12 s a) (dfn_made s).cell
  unfolding new_return new_after written
  dfn_built l = rw (eq-eqb (dfn_made s).refusal 0 h) (holds_alone dfn_layout a (dfn_made s).cell new_dfn l)
