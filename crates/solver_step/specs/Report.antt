-- The report of a step, from what both particles show at their surfaces. Definitions only.
use Rattle.std.specs.Prelude.{Bool, false, ◌&&◌, ◌||◌, Float}
use Rattle.std.specs.Float.Ieee.{lt, neg}
use Rattle.binary64.specs.Operators.{◌⊗◌}
use Rattle.binary64.specs.Literals.{«0·0»}
use Rattle.refusal.specs.Ranges.{finite}
use Rattle.particle.specs.declared.ParticleDiffusion.{ParticleDiffusion}
use Rattle.particle.specs.Particle.{surface_theta, surface_potential, average_theta}
use Rattle.kinetics.specs.declared.SpmConfig.{SpmConfig}
use Rattle.kinetics.specs.Kinetics.{overpotential, terminal_voltage}
use Rattle.solver_step.specs.declared.report.SpmState.{SpmState}
use Rattle.solver_step.specs.declared.report.SurfaceState.{SurfaceState}

-- what a particle shows at its surface: stoichiometries, open-circuit potential, overpotential
abbrev pub surface_with : ParticleDiffusion → Float → SurfaceState
surface_with p eta = record {
  theta = surface_theta p;
  theta_avg = average_theta p;
  potential = surface_potential p;
  overpotential = eta;
}

abbrev pub surface_state : SpmConfig → ParticleDiffusion → Float → Float → SurfaceState
surface_state g p j t = surface_with p (overpotential g j p t)

-- outside the voltage limits
abbrev cut_off : SpmConfig → Float → Bool
cut_off g v = lt v g.v_min || lt g.v_max v

-- from both surfaces and the current density
abbrev pub voltage_with : SpmConfig → Float → SurfaceState → SurfaceState → Float
voltage_with g density a c = terminal_voltage a.potential c.potential (neg a.overpotential) (neg c.overpotential) (density ⊗ g.r_electrolyte_ohm_m2)

-- from both surfaces, the current, the clock and the voltage
abbrev pub report_at : SpmConfig → SurfaceState → SurfaceState → Float → Float → Float → SpmState
report_at g a c i time v = record {
  voltage = v;
  current = i;
  theta_neg = a.theta;
  theta_pos = c.theta;
  theta_neg_avg = a.theta_avg;
  theta_pos_avg = c.theta_avg;
  time_s = time;
  cutoff = cut_off g v;
}

abbrev pub report_with : SpmConfig → Float → SurfaceState → SurfaceState → Float → Float → SpmState
report_with g density a c i time = report_at g a c i time (voltage_with g density a c)

-- 8: no NaN and no infinity in the new profiles and the report (the current is the one that was given)
abbrev pub finite_with : Bool → SpmState → Bool
finite_with profiles r =
    profiles && finite r.voltage && finite r.theta_neg && finite r.theta_pos && finite r.theta_neg_avg && finite r.theta_pos_avg
    && finite r.time_s

-- beside a refusal
unfoldable pub no_state : SpmState
no_state = record {
  voltage = «0·0»;
  current = «0·0»;
  theta_neg = «0·0»;
  theta_pos = «0·0»;
  theta_neg_avg = «0·0»;
  theta_pos_avg = «0·0»;
  time_s = «0·0»;
  cutoff = false;
}
