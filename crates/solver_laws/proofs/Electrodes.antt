-- The fluxes of the two electrodes: their ranges, and how they go with the current. Assumes nothing.
use Rattle.std.specs.Prelude.{ℕ, suc, ◌^◌, ◌≤◌, ◌≡◌, T, Float}
use Rattle.std.specs.Float.Ieee.{le, neg}
use Rattle.fraction.specs.Fraction.{◌≤F◌}
use Rattle.binary64.specs.Operators.{◌⊘◌, count}
use Rattle.binary64.specs.Range.{Sized, neg_most}
use Rattle.binary64.specs.Order.{neg_le}
use Rattle.binary64.proofs.OrderLaws.{div_le}
use Rattle.binary64.specs.Value.{val}
use Rattle.binary64.proofs.Value.{le_val}
use Rattle.particle.specs.Particle.{sub_step_params_of}
use Rattle.particle_laws.specs.Ranges.{Ranged}
use Rattle.kinetics.specs.Kinetics.{surface_current}
use Rattle.solver.specs.declared.SpmSolver.{SpmSolver}
use Rattle.solver.specs.Cell.{cell_refusal}
use Rattle.solver.specs.Step.{input_refusal, current_density, plan_of}
use Rattle.solver_laws.specs.Electrodes.{Electrode, particle_at, diffusivity_in, flux_in, config_passed, sheet_at_lem, surface_above, area_above, density_range, fluxes_range, cell_passed, current_fits_lem, sub_step_ranged_by}

-- ---- the fluxes, for a current of at most 2 ^ 20 A
module _ (s : SpmSolver) (h : cell_refusal s ≡ 0) where
  pub flux_range : (i dt t : Float) → Sized i (2 ^ 20) 1 → (e : Electrode) → Sized (flux_in e (plan_of s i dt t)) (2 ^ 100) 1
  flux_range i dt t m Electrode.anode = (fluxes_range s h i dt t m).0
  flux_range i dt t m Electrode.cathode = (fluxes_range s h i dt t m).1

  -- a greater current: a greater flux into the cathode, a lesser one into the anode
  module _ (i i' dt dt' t t' : Float) (m : Sized i (2 ^ 20) 1) (m' : Sized i' (2 ^ 20) 1) (l : T (le i i')) where
    density_le : T (le (current_density s i) (current_density s i'))
    unfolding current_density
    density_le = div_le i i' s.anode.params.area m.fine m'.fine l (area_above s h)

    pub cathode_flux : val (flux_in Electrode.cathode (plan_of s i dt t)) ≤F val (flux_in Electrode.cathode (plan_of s i' dt' t'))
    unfolding plan_of
    cathode_flux =
        le_val (flux_in Electrode.cathode (plan_of s i dt t)) (flux_in Electrode.cathode (plan_of s i' dt' t')) (flux_range i dt t m Electrode.cathode).fine (flux_range i' dt' t' m' Electrode.cathode).fine
        (div_le (current_density s i) (current_density s i') (surface_current s.cathode.params s.config.faraday) (density_range s h i m).fine (density_range s h i' m').fine density_le
        (surface_above s.cathode.params s.config (sheet_at_lem s h Electrode.cathode) (config_passed s h)))

    pub anode_flux : val (flux_in Electrode.anode (plan_of s i' dt' t')) ≤F val (flux_in Electrode.anode (plan_of s i dt t))
    unfolding plan_of
    anode_flux =
        le_val (flux_in Electrode.anode (plan_of s i' dt' t')) (flux_in Electrode.anode (plan_of s i dt t)) (flux_range i' dt' t' m' Electrode.anode).fine (flux_range i dt t m Electrode.anode).fine
        (div_le (neg (current_density s i')) (neg (current_density s i)) (surface_current s.anode.params s.config.faraday) (neg_most (density_range s h i' m')).fine (neg_most (density_range s h i m)).fine
        (neg_le (current_density s i) (current_density s i') density_le) (surface_above s.anode.params s.config (sheet_at_lem s h Electrode.anode) (config_passed s h)))

module _ (s : SpmSolver) (i dt t : Float) (h : input_refusal s i dt t ≡ 0) where
  -- EACH SUB-STEP AT EACH ELECTRODE is in its ranges
  pub sub_step_ranged : (e : Electrode) (k : ℕ) → suc k ≤ 4096 → Ranged (sub_step_params_of (particle_at e s) (diffusivity_in e (plan_of s i dt t)) (flux_in e (plan_of s i dt t)) (dt ⊘ count (suc k)))
  sub_step_ranged e k l = sub_step_ranged_by s i dt t h e (flux_in e (plan_of s i dt t)) (flux_range s (cell_passed s i dt t h) i dt t (current_fits_lem s i dt t h) e) k l
