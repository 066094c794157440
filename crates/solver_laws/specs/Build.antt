-- What a build of the cell answers: an accepted one a cell that passes the checks, a refused one the record of zeros. Assumes nothing.
use Prim.Native.Nat.{ℕ, zero, suc}
use Rattle.std.specs.Prelude.{◌≡◌, cond, ◌&&◌}
use Rattle.std.proofs.Math.Path.{refl}
use Rattle.std.proofs.Common.{subst, arith, zero-lt-suc, eq-eqb}
use Rattle.std.proofs.Math.Dec.{T, eqb, leb, eqb-suc-zero}
use Rattle.std.specs.Float.{binary64}
use Rattle.std.specs.Float.Ieee.{fits, le, of_bits}
use Rattle.std.specs.Float.Ieee.Bits.{is_true}
use Rattle.std.specs.Float.Ieee.Fits.{and_i, and_l, and_r}
use Rattle.refusal.specs.Numbers.{first_refusal, refusal_unless, grid, sheet, neither_refused, passed}
use Rattle.refusal.specs.Ranges.{clock_fits}
use Rattle.electrode.specs.declared.ElectrodeParams.{ElectrodeParams}
use Rattle.electrode.specs.Sheet.{sheet_fits}
use Rattle.particle.specs.Answers.{ParticleAnswer}
use Rattle.particle.specs.Checks.{nodes_fit, fields_fit_of, particle_refusal, fields_of}
use Rattle.particle.specs.Calls.{particle_answer, new_refusal, fresh, made}
use Rattle.particle_laws.specs.Closure as ParticleClosure
use Rattle.kinetics.specs.declared.SpmConfig.{SpmConfig}
use Rattle.kinetics.specs.Kinetics.{config_fits}
use Rattle.solver.specs.declared.SpmSolver.{SpmSolver}
use Rattle.solver.specs.Answers.{SpmBuildAnswer}
use Rattle.solver.specs.Cell.{grid_fits, cell_fits, cell_refusal, solver_answer, build_refusal, fresh_solver, no_solver, built}
use Rattle.binary64.specs.Literals.{«0·0»}

pub cell_passes : (s : SpmSolver) → T (grid_fits s) → T (cell_fits s) → cell_refusal s ≡ 0
unfolding cell_refusal first_refusal refusal_unless
cell_passes s g c = rw (is_true (grid_fits s) g, is_true (cell_fits s) c)

zero_clock : T (clock_fits «0·0»)
unfolding le of_bits
zero_clock = tt

-- a particle of n nodes whose sheet fits
particle_made_lem : (a : ElectrodeParams) (n : ℕ) → T (nodes_fit n) → T (sheet_fits a) → made a n ≡ particle_answer 0 (fresh a n)
unfolding made new_refusal first_refusal refusal_unless
particle_made_lem a n k h = rw (is_true (nodes_fit n) k, is_true (sheet_fits a) h)

fresh_passes : (a : ElectrodeParams) (n : ℕ) → T (fits binary64 a.c_s_max) → T (nodes_fit n) → T (sheet_fits a) → particle_refusal (fresh a n) ≡ 0
fresh_passes a n f k h = subst (λ (x : ParticleAnswer). x.refusal ≡ 0 → particle_refusal x.particle ≡ 0) (particle_made_lem a n k h) (ParticleClosure.build_passes a n f) refl

module _ (g : SpmConfig) (a c : ElectrodeParams) where
  abbrev outcome : ℕ → SpmBuildAnswer
  outcome k = cond (eqb k 0) (solver_answer 0 (fresh_solver g a c)) (solver_answer k no_solver)

  fresh_grid : T (nodes_fit g.n_nodes) → T (grid_fits (fresh_solver g a c))
  unfolding fresh_solver fresh
  fresh_grid k =
      let n = g.n_nodes in
      let e : T (eqb n n) = rw (eq-eqb n n refl) tt in
      and_i (leb 3 n && leb n 64 && eqb n n) (eqb n n) (and_i (leb 3 n && leb n 64) (eqb n n) k e) e

  fresh_solver_lem : T (fits binary64 a.c_s_max) → T (fits binary64 c.c_s_max) → build_refusal g a c ≡ 0 → cell_refusal (fresh_solver g a c) ≡ 0
  unfolding build_refusal fresh_solver
  fresh_solver_lem m n h =
      let k = passed (nodes_fit g.n_nodes) grid (zero-lt-suc 0) (neither_refused _ _ h).0 in
      let t = passed (config_fits g && sheet_fits a && sheet_fits c) sheet (zero-lt-suc 1) (neither_refused _ _ h).1 in
      let u = and_l (config_fits g && sheet_fits a) (sheet_fits c) t in
      let x = fresh a g.n_nodes in
      let y = fresh c g.n_nodes in
      cell_passes (fresh_solver g a c) (fresh_grid k)
      (and_i (config_fits g && fields_fit_of x && fields_fit_of y) (clock_fits «0·0»)
      (and_i (config_fits g && fields_fit_of x) (fields_fit_of y)
      (and_i (config_fits g) (fields_fit_of x) (and_l (config_fits g) (sheet_fits a) u) (fields_of x (fresh_passes a g.n_nodes m k (and_r (config_fits g) (sheet_fits a) u))))
      (fields_of y (fresh_passes c g.n_nodes n k (and_r (config_fits g && sheet_fits a) (sheet_fits c) t)))) zero_clock)

  -- A BUILD THAT IS ACCEPTED gives a cell that passes the checks; both largest concentrations are numbers of binary64, as each f64 of a program is
  pub build_passes : T (fits binary64 a.c_s_max) → T (fits binary64 c.c_s_max) → (built g a c).refusal ≡ 0 → cell_refusal (built g a c).solver ≡ 0
  unfolding built
  build_passes m n = go (build_refusal g a c) refl
    where
      go : (k : ℕ) → build_refusal g a c ≡ k → (outcome k).refusal ≡ 0 → cell_refusal (outcome k).solver ≡ 0
      go zero e z = fresh_solver_lem m n e
      go (suc k) e z = let y : suc k ≡ 0 = rw (eqb-suc-zero k) at z in absurd (omega (arith, y))

  -- A BUILD THAT IS REFUSED gives the record whose every number is +0 and whose counts are 0
  pub build_refused : ((built g a c).refusal ≡ 0 → ⊥) → (built g a c).solver ≡ no_solver
  unfolding built
  build_refused = go (build_refusal g a c)
    where
      go : (k : ℕ) → ((outcome k).refusal ≡ 0 → ⊥) → (outcome k).solver ≡ no_solver
      go zero n = absurd (n refl)
      go (suc k) n = rw (eqb-suc-zero k)
