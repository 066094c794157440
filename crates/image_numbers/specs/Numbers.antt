-- What each call that gives a number answers to an image, by its number. Definitions only.
use Rattle.std.specs.Prelude.{ℕ, cond, List, map, ◌==◌, nat_le, Float}
use Rattle.binary64.specs.Operators.{count}
use Rattle.refusal.specs.Answers.{Outcome}
use Rattle.electrode.specs.declared.ElectrodeParams.{ElectrodeParams}
use Rattle.electrode.specs.Calls.{d_s_of, specific_area_call, ocp_call, slope_call, volume_call}
use Rattle.particle.specs.declared.ParticleDiffusion.{ParticleDiffusion}
use Rattle.particle.specs.Calls as P
use Rattle.solver.specs.declared.SpmSolver.{SpmSolver}
use Rattle.solver.specs.Cell.{ocv_call, soc_call}
use Rattle.electrolyte_parameters.specs.declared.ElectrolyteParams.{ElectrolyteParams}
use Rattle.electrolyte.specs.declared.ElectrolyteState.{ElectrolyteState}
use Rattle.electrolyte_parameters.specs.Calls as R
use Rattle.electrolyte.specs.Answers.{Counted}
use Rattle.electrolyte.specs.Calls as E
use Rattle.cell_images.specs.Images.{cell_at}
use Rattle.sheet_images.specs.Images.{sheet_at, particle_at}
use Rattle.electrolyte_images.specs.Images.{electrolyte_params_at, electrolyte_at}
use Rattle.image_layout.specs.Layout.{electrolyte_params_bytes, sheet_bytes, particle_bytes, electrolyte_bytes, cell_bytes}

-- 1 d_s, 2 specific_area, 3 ocp, 4 docp_dtheta, 5 sphere_volume
unfoldable pub sheet_number : ℕ → ElectrodeParams → Float → Outcome
sheet_number call p x =
    cond (call == 1) (d_s_of p x)
    (cond (call == 2) (specific_area_call p)
    (cond (call == 3) (ocp_call p x)
    (cond (call == 4) (slope_call p x) (volume_call x))))

-- 6 dt_stable, 7 theta_surface, 8 theta_avg, 9 c_avg, 10 ocp_surface
unfoldable pub particle_number : ℕ → ParticleDiffusion → Float → Outcome
particle_number call p x =
    cond (call == 6) (P.dt_stable p x)
    (cond (call == 7) (P.theta_surface p)
    (cond (call == 8) (P.theta_avg_of p)
    (cond (call == 9) (P.c_avg_of p) (P.ocp_surface p))))

-- 11 ocv, 12 soc_estimate
unfoldable pub cell_number : ℕ → SpmSolver → Outcome
cell_number call s = cond (call == 11) (ocv_call s) (soc_call s)

-- 13 d_e, 14 kappa, 15 d_e_eff, 16 kappa_eff
unfoldable pub rate_number : ℕ → ElectrolyteParams → Float → Float → Outcome
rate_number call p porosity t =
    cond (call == 13) (R.d_e_of p t)
    (cond (call == 14) (R.kappa_call p t)
    (cond (call == 15) (R.d_e_eff_of p porosity t) (R.kappa_eff_of p porosity t)))

-- a count as a number
abbrev pub count_outcome : Counted → Outcome
count_outcome c = record { refusal = c.refusal; values = map count c.values }

unfoldable pub nodes_outcome : ElectrolyteState → Outcome
nodes_outcome e = count_outcome (E.n_total_of e)

-- 17 n_total, 18 c_avg, 19 dt_stable
unfoldable pub electrolyte_number : ℕ → ElectrolyteState → Float → Outcome
electrolyte_number call e x = cond (call == 17) (nodes_outcome e) (cond (call == 18) (E.c_avg_of e) (E.dt_stable e x))

-- which record the image holds
unfoldable pub number_outcome : ℕ → List ℕ → Float → Float → Outcome
number_outcome call s x y =
    cond (nat_le call 5) (sheet_number call (sheet_at s 0) x)
    (cond (nat_le call 10) (particle_number call (particle_at s 0) x)
    (cond (nat_le call 12) (cell_number call (cell_at s))
    (cond (nat_le call 16) (rate_number call (electrolyte_params_at s) x y) (electrolyte_number call (electrolyte_at s) x))))

-- how many bytes that record's image has: none for a sphere's volume
unfoldable pub number_length : ℕ → ℕ
number_length call =
    cond (nat_le call 4) sheet_bytes (cond (call == 5) 0 (cond (nat_le call 10) particle_bytes (cond (nat_le call 12) cell_bytes (cond (nat_le call 16) electrolyte_params_bytes electrolyte_bytes))))
