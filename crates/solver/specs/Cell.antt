-- The single-particle cell: what it is checked for, how it is built, and the numbers that it gives at rest. Definitions, and what a cell that nothing
-- refuses has met. Assumes nothing.
use Rattle.std.specs.Prelude.{ℕ, ◌≤◌, ◌≡◌, Bool, cond, ◌&&◌, T, eqb, Float}
use Rattle.std.proofs.Common.{sym, subst, zero-lt-suc, eqb→eq}
use Rattle.std.specs.Float.Ieee.Fits.{and_l, and_r}
use Rattle.binary64.specs.Operators.{◌⊖◌, ◌⊘◌}
use Rattle.binary64.specs.Literals.{«0·0», «0·2», «0·8», «1·0»}
use Rattle.min_max.specs.MinMax.{clamp_of}
use Rattle.refusal.specs.Numbers.{first_refusal, refusal_unless, grid, sheet, neither_refused, passed}
use Rattle.refusal.specs.Ranges.{clock_fits}
use Rattle.refusal.specs.RangeLaws.{count_between}
use Rattle.refusal.specs.Answers.{Outcome, finite_outcome}
use Rattle.electrode.specs.declared.ElectrodeParams.{ElectrodeParams}
use Rattle.electrode.specs.Sheet.{sheet_fits, graphite_anode}
use Rattle.particle.specs.declared.ParticleDiffusion.{ParticleDiffusion}
use Rattle.particle.specs.Checks.{nodes_fit, fields_fit_of}
use Rattle.particle.specs.Particle.{surface_potential, average_theta}
use Rattle.particle.specs.Calls.{fresh, no_particle}
use Rattle.kinetics.specs.declared.SpmConfig.{SpmConfig}
use Rattle.kinetics.specs.Kinetics.{config_fits}
use Rattle.solver.specs.declared.SpmSolver.{SpmSolver}
use Rattle.solver.specs.Answers.{SpmBuildAnswer}

-- ---- checks
-- the config's count of nodes is in range, and is that of both particles
abbrev pub grid_fits : SpmSolver → Bool
grid_fits s =
    nodes_fit s.config.n_nodes && eqb s.anode.n_nodes s.config.n_nodes && eqb s.cathode.n_nodes s.config.n_nodes

abbrev pub cell_fits : SpmSolver → Bool
cell_fits s = config_fits s.config && fields_fit_of s.anode && fields_fit_of s.cathode && clock_fits s.time_s

-- all of 1, then all of 2
unfoldable pub cell_refusal : SpmSolver → ℕ
cell_refusal s = first_refusal (refusal_unless (grid_fits s) grid) (refusal_unless (cell_fits s) sheet)

-- ---- builds
abbrev pub solver_answer : ℕ → SpmSolver → SpmBuildAnswer
solver_answer k s = record { refusal = k; solver = s }

unfoldable pub build_refusal : SpmConfig → ElectrodeParams → ElectrodeParams → ℕ
build_refusal g a c =
    first_refusal (refusal_unless (nodes_fit g.n_nodes) grid) (refusal_unless (config_fits g && sheet_fits a && sheet_fits c) sheet)

-- both particles fresh, the clock at +0
unfoldable pub fresh_solver : SpmConfig → ElectrodeParams → ElectrodeParams → SpmSolver
fresh_solver g a c = record { config = g; anode = fresh a g.n_nodes; cathode = fresh c g.n_nodes; time_s = «0·0» }

abbrev no_config : SpmConfig
no_config = record { n_nodes = 0; v_min = «0·0»; v_max = «0·0»; faraday = «0·0»; r_gas = «0·0»; r_electrolyte_ohm_m2 = «0·0» }

-- beside a refused build
unfoldable pub no_solver : SpmSolver
no_solver = record { config = no_config; anode = no_particle; cathode = no_particle; time_s = «0·0» }

unfoldable pub built : SpmConfig → ElectrodeParams → ElectrodeParams → SpmBuildAnswer
built g a c = cond (eqb (build_refusal g a c) 0) (solver_answer 0 (fresh_solver g a c)) (solver_answer (build_refusal g a c) no_solver)

-- graphite and one of the two ready cathodes
abbrev pub ready : SpmConfig → ElectrodeParams → SpmBuildAnswer
ready g c = built g graphite_anode c

-- ---- numbers at rest
-- u_pos - u_neg
unfoldable pub open_circuit_voltage : SpmSolver → Float
open_circuit_voltage s = surface_potential s.cathode ⊖ surface_potential s.anode

-- (theta - 0.20) / (0.80 - 0.20), clamped to 0 to 1, by the anode's average
unfoldable pub state_of_charge : SpmSolver → Float
state_of_charge s = clamp_of ((average_theta s.anode ⊖ «0·2») ⊘ («0·8» ⊖ «0·2»)) «0·0» «1·0»

unfoldable pub ocv_call : SpmSolver → Outcome
ocv_call s = finite_outcome (cell_refusal s) (open_circuit_voltage s)

unfoldable pub soc_call : SpmSolver → Outcome
soc_call s = finite_outcome (cell_refusal s) (state_of_charge s)

-- ---- what a cell that nothing refuses has met
abbrev pub NodesValid : ParticleDiffusion → Type 0
NodesValid p = (3 ≤ p.n_nodes) × (p.n_nodes ≤ 64)

module _ (s : SpmSolver) (g : T (grid_fits s)) where
  abbrev n : ℕ
  n = s.config.n_nodes

  front : T (nodes_fit n && eqb s.anode.n_nodes n)
  front = and_l (nodes_fit n && eqb s.anode.n_nodes n) (eqb s.cathode.n_nodes n) g

  valid : (m : ℕ) → m ≡ n → (3 ≤ m) × (m ≤ 64)
  valid m e = subst (λ (k : ℕ). (3 ≤ k) × (k ≤ 64)) (sym e) (count_between n 3 64 (and_l (nodes_fit n) (eqb s.anode.n_nodes n) front))

  pub grid_anode : NodesValid s.anode
  grid_anode = valid s.anode.n_nodes (eqb→eq _ _ (and_r (nodes_fit n) (eqb s.anode.n_nodes n) front))

  pub grid_cathode : NodesValid s.cathode
  grid_cathode = valid s.cathode.n_nodes (eqb→eq _ _ (and_r (nodes_fit n && eqb s.anode.n_nodes n) (eqb s.cathode.n_nodes n) g))

pub grid_passed : (s : SpmSolver) → refusal_unless (grid_fits s) grid ≡ 0 → T (grid_fits s)
grid_passed s h = passed (grid_fits s) grid (zero-lt-suc 0) h

module _ (s : SpmSolver) (h : cell_refusal s ≡ 0) where
  grid_valid : T (grid_fits s)
  unfolding cell_refusal
  grid_valid = grid_passed s (neither_refused _ _ h).0

  pub anode_nodes : NodesValid s.anode
  anode_nodes = grid_anode s grid_valid

  pub cathode_nodes : NodesValid s.cathode
  cathode_nodes = grid_cathode s grid_valid

  pub cell_valid : T (cell_fits s)
  unfolding cell_refusal
  cell_valid = passed (cell_fits s) sheet (zero-lt-suc 1) (neither_refused _ _ h).1
