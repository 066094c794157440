-- A step: what moves, the report, the cell that it leaves, and what it answers. Definitions only.
use Rattle.std.specs.Prelude.{ℕ, ◌-◌, ◌/◌, Bool, false, cond, ◌&&◌, ◌||◌, List, ◌==◌, slice_index_or, Float}
use Rattle.std.specs.Float.{nan}
use Rattle.std.specs.Float.Ieee.{lt, neg}
use Rattle.binary64.specs.Operators.{◌⊕◌, ◌⊘◌, count}
use Rattle.binary64.specs.Literals.{«0·0»}
use Rattle.refusal.specs.Numbers.{not_finite_of}
use Rattle.refusal.specs.Ranges.{finite}
use Rattle.dfn_parameters.specs.Sides.{anode_of, cathode_of, pore_flux}
use Rattle.dfn_parameters.specs.declared.DfnParams.{DfnParams}
use Rattle.dfn_parameters.specs.declared.DfnConfig.{DfnConfig}
use Rattle.dfn_parameters.specs.declared.Side.{Side}
use Rattle.arrays.specs.Places.{all_finite}
use Rattle.dfn_places.specs.Places.{change_after}
use Rattle.dfn_electrolyte.specs.Electrolyte.{electrolyte_after}
use Rattle.dfn_solid.specs.Solid.{Solid, solid_after}
use Rattle.dfn_solid.specs.declared.ParticleParams.{ParticleParams}
use Rattle.dfn_voltage.specs.Voltage.{voltage_of}
use Rattle.dfn.specs.Checks.{used_neg, used_pos, used_electrolyte, step_refusal}
use Rattle.dfn.specs.declared.DfnSolver.{DfnSolver}
use Rattle.dfn.specs.declared.DfnStep.{DfnStep}
use Rattle.dfn.specs.Answers.{DfnStepAnswer}

-- n nodes in each particle: dr = r / (n - 1)
abbrev pub particle_params : DfnParams → Side → ℕ → Float → Float → ParticleParams
particle_params p side n current dt = record {
  n = n;
  dr = side.r ⊘ count (n - 1);
  d_ref = side.d_s_ref;
  c_max = side.c_s_max;
  flux = pore_flux side p.area current;
  dt = dt;
}

-- what a step moves
pub record Moved : Type 0 where
  pub c_e : List Float
  pub anode : Solid
  pub cathode : Solid

-- the electrolyte and the particles of both electrodes, all from the old cell; -I at the anode, I at the cathode
unfoldable pub moved_by : DfnSolver → Float → Float → Moved
moved_by d current dt = record {
  c_e = electrolyte_after d.params d.config.n_x_neg d.config.n_x_pos d.c_e current dt;
  anode = solid_after (particle_params d.params (anode_of d.params) d.config.n_r (neg current) dt) d.c_s_neg d.config.n_x_neg;
  cathode = solid_after (particle_params d.params (cathode_of d.params) d.config.n_r current dt) d.c_s_pos d.config.n_x_pos;
}

abbrev pub report_at : DfnConfig → List Float → List Float → Float → Float → Float → Float → Float → DfnStep
report_at g old new theta_neg theta_pos t current v = record {
  voltage = v;
  current = current;
  time_s = t;
  theta_neg = theta_neg;
  theta_pos = theta_pos;
  delta_c_e_max = change_after new old (used_electrolyte g);
  newton_iter = 1;
  cutoff = lt v g.v_min || lt g.v_max v;
}

-- by the electrolyte before and after; the voltage from the new stoichiometries and the new concentration at node n_x_neg / 2
abbrev pub report_by : DfnParams → DfnConfig → List Float → List Float → Float → Float → Float → Float → DfnStep
report_by p g old new theta_neg theta_pos t current =
    report_at g old new theta_neg theta_pos t current (voltage_of p theta_neg theta_pos (slice_index_or new (g.n_x_neg / 2) nan) current)

unfoldable pub report_of : DfnSolver → Moved → Float → Float → DfnStep
report_of d m current dt =
    report_by d.params d.config d.c_e m.c_e m.anode.theta m.cathode.theta (d.time_s ⊕ dt) current

unfoldable pub cell_with : DfnSolver → Moved → DfnStep → DfnSolver
cell_with d m r = record {
  params = d.params;
  config = d.config;
  c_s_neg = m.anode.c;
  c_s_pos = m.cathode.c;
  c_e = m.c_e;
  time_s = r.time_s;
  voltage = r.voltage;
  current = r.current;
  theta_neg_surf = r.theta_neg;
  theta_pos_surf = r.theta_pos;
}

-- neither the arrays of the new cell nor the report hold a NaN or an infinity; the report's numbers are the cell's too
abbrev pub parts_finite : DfnConfig → List Float → List Float → List Float → DfnStep → Bool
parts_finite g neg pos c_e_of r =
    all_finite neg (used_neg g)
    && all_finite pos (used_pos g)
    && all_finite c_e_of (used_electrolyte g)
    && finite r.voltage
    && finite r.current
    && finite r.time_s
    && finite r.theta_neg
    && finite r.theta_pos
    && finite r.delta_c_e_max

-- of these, what is not tested with an electrode's particles: their mean stoichiometries are
abbrev pub rest_finite : DfnConfig → List Float → DfnStep → Bool
rest_finite g c_e_of r = all_finite c_e_of (used_electrolyte g) && finite r.voltage && finite r.current && finite r.time_s && finite r.delta_c_e_max

unfoldable pub all_numbers : DfnSolver → DfnStep → Bool
all_numbers d r = parts_finite d.config d.c_s_neg d.c_s_pos d.c_e r

unfoldable pub no_report : DfnStep
no_report = record {
  voltage = «0·0»;
  current = «0·0»;
  time_s = «0·0»;
  theta_neg = «0·0»;
  theta_pos = «0·0»;
  delta_c_e_max = «0·0»;
  newton_iter = 0;
  cutoff = false;
}

abbrev pub refused_with : ℕ → DfnSolver → DfnStepAnswer
refused_with k d = record { refusal = k; report = no_report; cell = d }

-- by the new cell, refused with 8 where it or the report does not hold numbers alone
unfoldable pub answered : DfnSolver → DfnSolver → DfnStep → DfnStepAnswer
answered old new r = cond (all_numbers new r) (record { refusal = 0; report = r; cell = new }) (refused_with not_finite_of old)

unfoldable pub followed : DfnSolver → Moved → DfnStep → DfnStepAnswer
followed d m r = answered d (cell_with d m r) r

unfoldable pub advanced : DfnSolver → Moved → Float → Float → DfnStepAnswer
advanced d m current dt = followed d m (report_of d m current dt)

unfoldable pub stepped : DfnSolver → Float → Float → DfnStepAnswer
stepped d current dt =
    cond (step_refusal d current dt == 0) (advanced d (moved_by d current dt) current dt) (refused_with (step_refusal d current dt) d)
