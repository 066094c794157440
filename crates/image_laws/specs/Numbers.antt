-- A number that `pj_number` gives is read back. Assumes nothing.
use Rattle.std.specs.Prelude.{ℕ, zero, suc, ◌≡◌, refl, List, T, eqb, leb, length, Float}
use Rattle.std.proofs.Common.{arith}
use Rattle.std.proofs.Math.Dec.{eqb-suc-zero}
use Rattle.std.specs.Float.Ieee.{lt, fits}
use Rattle.std.specs.Float.{binary64}
use Rattle.std.specs.Float.Ieee.Fits.{add-fits, sub-fits, mul-fits, div-fits, cond-fits, of_int-fits}
use Rattle.refusal.specs.Answers.{Outcome, outcome}
use Rattle.matrix_rows.specs.Loops.{either}
use Rattle.curves.specs.Curves.{graphite_curve, lfp_curve, nmc_curve, chemistry_curve, chemistry_slope}
use Rattle.electrode.specs.declared.ElectrodeParams.{ElectrodeParams}
use Rattle.electrode.specs.Sheet.{diffusivity_at, specific_area}
use Rattle.electrode.specs.Curves.{open_circuit, open_circuit_slope}
use Rattle.electrode.specs.Calls.{d_s_of, specific_area_call, ocp_call, slope_call, volume_call}
use Rattle.particle.specs.declared.ParticleDiffusion.{ParticleDiffusion}
use Rattle.profile.specs.Weights.{shares}
use Rattle.particle.specs.Particle.{spacing, surface_theta, surface_potential, stable_step, average, average_theta}
use Rattle.particle.specs.Calls as P
use Rattle.solver.specs.declared.SpmSolver.{SpmSolver}
use Rattle.solver.specs.Cell.{open_circuit_voltage, state_of_charge, ocv_call, soc_call}
use Rattle.electrolyte_parameters.specs.declared.ElectrolyteParams.{ElectrolyteParams}
use Rattle.electrolyte_parameters.specs.Params.{at_temperature, diffusivity_eff, conductivity_eff}
use Rattle.electrolyte_parameters.specs.Calls as R
use Rattle.electrolyte.specs.declared.ElectrolyteState.{ElectrolyteState}
use Rattle.electrolyte.specs.State.{average_of, stable_interval}
use Rattle.electrolyte.specs.Calls as E
use Rattle.sheet_images.specs.Images.{sheet_at, particle_at}
use Rattle.cell_images.specs.Images.{cell_at}
use Rattle.electrolyte_images.specs.Images.{electrolyte_params_at, electrolyte_at}
use Rattle.image_numbers.specs.Numbers.{sheet_number, particle_number, cell_number, rate_number, nodes_outcome, electrolyte_number, number_outcome}
use Rattle.image_laws.specs.Encodable.{EncodableRow, []ᵉ, ◌∷ᵉ◌, clamp_fits, literal, places_encodable}
use Rattle.binary64.specs.Literals.{«0·0», «1e-30»}
use Rattle.image_layout.specs.Layout.{particle_profile}

-- what an answer has: numbers of binary64, and one of them where nothing refuses
pub record Answered (a : Outcome) : Type 0 where
  pub places : EncodableRow a.values
  pub one : a.refusal ≡ 0 → length a.values ≡ 1

outcome_answered : (n : ℕ) (x : Float) → T (fits binary64 x) → Answered (outcome n x)
unfolding outcome
outcome_answered zero x f = record { places = f ∷ᵉ []ᵉ; one = λ z. refl }
outcome_answered (suc k) x f = rw (eqb-suc-zero k) (record { places = []ᵉ; one = λ (z : suc k ≡ 0). absurd (omega (arith, z)) })

-- ---- the open-circuit curves
graphite_fits : (x : Float) → T (fits binary64 (graphite_curve x))
unfolding graphite_curve
graphite_fits x = sub-fits binary64 _ _

lfp_fits : (x : Float) → T (fits binary64 (lfp_curve x))
unfolding lfp_curve
lfp_fits x = add-fits binary64 _ _

nmc_fits : (x : Float) → T (fits binary64 (nmc_curve x))
unfolding nmc_curve
nmc_fits x = add-fits binary64 _ _

curve_fits : (chemistry : ℕ) (theta : Float) → T (fits binary64 (chemistry_curve chemistry theta))
unfolding chemistry_curve
curve_fits chemistry theta =
    let F : Float → Type 0 = λ x. T (fits binary64 x) in
    either F (eqb chemistry 1) _ _ (graphite_fits _) (either F (eqb chemistry 2) _ _ (lfp_fits _) (either F (eqb chemistry 3) _ «0·0» (nmc_fits _) (literal 0)))

-- ---- each record's numbers
sheet_answered : (call : ℕ) (p : ElectrodeParams) (x : Float) → Answered (sheet_number call p x)
unfolding sheet_number d_s_of specific_area_call ocp_call slope_call volume_call diffusivity_at specific_area open_circuit open_circuit_slope chemistry_slope
sheet_answered call p x =
    either Answered (eqb call 1) _ _ (outcome_answered _ _ (mul-fits binary64 _ _))
    (either Answered (eqb call 2) _ _ (outcome_answered _ _ (div-fits binary64 _ _))
    (either Answered (eqb call 3) _ _ (outcome_answered _ _ (curve_fits p.electrode_type x))
    (either Answered (eqb call 4) _ _ (outcome_answered _ _ (div-fits binary64 _ _)) (outcome_answered _ _ (mul-fits binary64 _ _)))))

average_fits : (p : ParticleDiffusion) → EncodableRow p.c_s → T (fits binary64 (average p))
unfolding average
average_fits p h = cond-fits binary64 (lt (shares p.n_nodes (spacing p.params p.n_nodes) p.n_nodes) «1e-30») _ _ (h.place 0) (div-fits binary64 _ _)

particle_answered : (call : ℕ) (p : ParticleDiffusion) (x : Float) → EncodableRow p.c_s → Answered (particle_number call p x)
unfolding particle_number P.dt_stable P.theta_surface P.theta_avg_of P.c_avg_of P.ocp_surface stable_step surface_theta average_theta surface_potential open_circuit
particle_answered call p x h =
    either Answered (eqb call 6) _ _ (outcome_answered _ _ (div-fits binary64 _ _))
    (either Answered (eqb call 7) _ _ (outcome_answered _ _ (div-fits binary64 _ _))
    (either Answered (eqb call 8) _ _ (outcome_answered _ _ (div-fits binary64 _ _))
    (either Answered (eqb call 9) _ _ (outcome_answered _ _ (average_fits p h)) (outcome_answered _ _ (curve_fits _ _)))))

cell_answered : (call : ℕ) (c : SpmSolver) → Answered (cell_number call c)
unfolding cell_number ocv_call soc_call open_circuit_voltage state_of_charge
cell_answered call c =
    either Answered (eqb call 11) _ _ (outcome_answered _ _ (sub-fits binary64 _ _)) (outcome_answered _ _ (clamp_fits _ _ _ (div-fits binary64 _ _) (literal _) (literal _)))

rate_answered : (call : ℕ) (p : ElectrolyteParams) (porosity t : Float) → Answered (rate_number call p porosity t)
unfolding rate_number R.d_e_of R.kappa_call R.d_e_eff_of R.kappa_eff_of at_temperature diffusivity_eff conductivity_eff
rate_answered call p porosity t =
    either Answered (eqb call 13) _ _ (outcome_answered _ _ (mul-fits binary64 _ _))
    (either Answered (eqb call 14) _ _ (outcome_answered _ _ (mul-fits binary64 _ _))
    (either Answered (eqb call 15) _ _ (outcome_answered _ _ (mul-fits binary64 _ _)) (outcome_answered _ _ (mul-fits binary64 _ _))))

nodes_answered : (e : ElectrolyteState) → Answered (nodes_outcome e)
unfolding nodes_outcome E.n_total_of
nodes_answered e = go (E.state_refusal e) refl
  where
    go : (k : ℕ) → E.state_refusal e ≡ k → Answered (nodes_outcome e)
    go zero q = rw q (record { places = of_int-fits binary64 _ ∷ᵉ []ᵉ; one = λ z. refl })
    go (suc k) q = rw (q, eqb-suc-zero k) (record { places = []ᵉ; one = λ (z : suc k ≡ 0). absurd (omega (arith, z)) })

electrolyte_answered : (call : ℕ) (e : ElectrolyteState) (x : Float) → Answered (electrolyte_number call e x)
unfolding electrolyte_number E.c_avg_of E.dt_stable average_of stable_interval
electrolyte_answered call e x =
    either Answered (eqb call 17) _ _ (nodes_answered e) (either Answered (eqb call 18) _ _ (outcome_answered _ _ (div-fits binary64 _ _)) (outcome_answered _ _ (div-fits binary64 _ _)))

particle_at-places : (s : List ℕ) → EncodableRow (particle_at s 0).c_s
unfolding particle_at
particle_at-places s = places_encodable 64 s particle_profile

-- all nineteen
pub number_answered : (call : ℕ) (s : List ℕ) (x y : Float) → Answered (number_outcome call s x y)
unfolding number_outcome
number_answered call s x y =
    either Answered (leb call 5) _ _ (sheet_answered call (sheet_at s 0) x)
    (either Answered (leb call 10) _ _ (particle_answered call (particle_at s 0) x (particle_at-places s))
    (either Answered (leb call 12) _ _ (cell_answered call (cell_at s))
    (either Answered (leb call 16) _ _ (rate_answered call (electrolyte_params_at s) x y) (electrolyte_answered call (electrolyte_at s) x))))
