-- The worked examples, in the order of the list that asks for them. Each left side is the definition that a contract cites: exp, ln, sqrt, asinh, solve_dense, the plan of a
-- step and its answer, the weights of the average, update_solid. Assumes nothing.
use Rattle.std.specs.Prelude.{ℕ, ◌+◌, ◌-◌, ◌^◌, ◌≡◌, refl, false, [], ◌∷◌, map, T, replicate, Float}
use Rattle.std.specs.Float.{binary64}
use Rattle.std.specs.Float.Ieee.{is_nan, lt, le, add, sub, mul, div, neg, round, of_int, size, of_bits, to_bits}
use Rattle.std.specs.Float.Ieee.Bits.{is_true}
use Rattle.binary64.specs.Operators.{f64}
use Rattle.square_root.specs.Root.{sqrt_of, rounded, whole_root, root_below}
use Rattle.elementary.specs.Exp.{series, squarings, powered, exp_of}
use Rattle.elementary.specs.Ln.{terms, ln_parts, ln_split, ln_of}
use Rattle.elementary.specs.Asinh.{asinh_taylor, asinh_of}
use Rattle.min_max.specs.Count.{ceil_of}
use Rattle.refusal.specs.Numbers.{refusal_unless, first_refusal}
use Rattle.iterate.specs.Iterate.{first_by, all_below}
use Rattle.array_update.specs.ArrayUpdate.{places_by}
use Rattle.profile.specs.Weights.{inner_weight, weight}
use Rattle.dense.specs.Answers.{Solved}
use Rattle.matrix_rows.specs.Loops.{turns_from, for_range, unless_refused, try_range}
use Rattle.matrix_rows.specs.Places.{zeros}
use Rattle.matrix_rows.specs.Rows.{swapped, rows_swapped, row_reduced}
use Rattle.matrix_columns.specs.Columns.{row_less, row_cleared, column_cleared, pivot_taken}
use Rattle.dense_elimination.specs.Elimination.{candidate, larger, pivot_of, column_with, column_done, eliminated}
use Rattle.dense.specs.Substitution.{taken_out, column_solved, substituted}
use Rattle.dense.specs.Solve.{place_loaded, row_loaded, matrix_loaded, loaded, reduced, solution, input_refusal, solution_refusal, answer, solved}
use Rattle.solver_step.specs.declared.plan.Plan.{Plan}
use Rattle.solver_step.specs.Plans.{plan_refusal}
use Rattle.solver_step.specs.declared.report.SpmState.{SpmState}
use Rattle.solver.specs.declared.SpmSolver.{SpmSolver}
use Rattle.solver.specs.Step.{finite_step, finished}
use Rattle.dfn_solid.specs.declared.ParticleParams.{ParticleParams}
use Rattle.dfn_solid.specs.Solid.{d_solids, inner_with, surface_with, centre_with, node_with, particle_with, particles_with, surfaces_with, solid_after}

infix 66 ◌over◌
-- ---- how the list writes its numbers
-- a / b, rounded once
abbrev pub ◌over◌ : ℕ → ℕ → Float
a over b = round binary64 false a b

abbrev pub num : ℕ → Float
num n = n over 1

abbrev pub minus_zero : Float
minus_zero = neg (num 0)

-- the next smaller one of a number above 0
abbrev pub next_below : Float → Float
next_below x = f64 (to_bits binary64 x - 1)

-- what a system of order 2 answers: no refusal, and a solution whose other places are +0
abbrev pub solved_to : Float → Float → Solved
solved_to x y = answer 0 (x ∷ y ∷ zeros 30)

-- a plan at rest of the quotient q = dt / dt_use, both diffusivities 1e-14 m^2/s
abbrev pub plan_by : Float → Plan
plan_by q = record { d_neg = 1 over 10 ^ 14; d_pos = 1 over 10 ^ 14; j_neg = num 0; j_pos = num 0; q = q }

-- q gives k sub-steps: nothing refuses the plan, and a step of any cell that follows it and whose numbers are finite is accepted and reports k
pub record SubSteps (q : Float) (k : ℕ) : Type 0 where
  pub passes : plan_refusal (plan_by q) ≡ 0
  pub reports : (s after : SpmSolver) (r : SpmState) → T (finite_step after r) → finished s (plan_by q) after r ≡ record { refusal = 0; state = r; sub_steps = k; solver = after }

-- two nodes 1 m apart, of largest concentration 100; diffusivity 1 m^2/s, no flux, 1 s
abbrev pub two_nodes : ParticleParams
two_nodes = record { n = 2; dr = num 1; d_ref = num 1; c_max = num 100; flux = num 0; dt = num 1 }

-- ---- the list
pub record WorkedExamples : Type 0 where
  -- E(0) = 1
  pub exp_0 : exp_of (num 0) ≡ num 1
  -- L(1) = +0
  pub ln_1 : ln_of (num 1) ≡ num 0
  -- L(2) = c
  pub ln_2 : ln_of (num 2) ≡ f64 0x3FE6_2E42_FEFA_39EF
  -- S(2^-1074) = 2^-537
  pub sqrt_least : sqrt_of (1 over 2 ^ 1074) ≡ 1 over 2 ^ 537
  -- S(-0) = -0
  pub sqrt_minus_0 : sqrt_of minus_zero ≡ minus_zero
  -- H(-0) = -0
  pub asinh_minus_0 : asinh_of minus_zero ≡ minus_zero
  -- the identity of order 2 with (3, 4) gives (3, 4)
  pub identity : solved (num 1 ∷ num 0 ∷ num 0 ∷ num 1 ∷ []) (num 3 ∷ num 4 ∷ []) 2 ≡ solved_to (num 3) (num 4)
  -- rows (0, 1), (1, 0) give (4, 3)
  pub crossed : solved (num 0 ∷ num 1 ∷ num 1 ∷ num 0 ∷ []) (num 3 ∷ num 4 ∷ []) 2 ≡ solved_to (num 4) (num 3)
  -- order 1: entry 1e-14 with 0 gives 0
  pub least_pivot : solved ((1 over 10 ^ 14) ∷ []) (num 0 ∷ []) 1 ≡ answer 0 (zeros 32)
  -- the next smaller binary64 gives 9
  pub below_least : solved (next_below (1 over 10 ^ 14) ∷ []) (num 0 ∷ []) 1 ≡ answer 9 (zeros 32)
  -- q = 4,096 gives 4,096 sub-steps
  pub count_4096 : SubSteps (num 4096) 4096
  -- q = 1 + 2^-52 gives 2
  pub count_above_1 : SubSteps ((2 ^ 52 + 1) over 2 ^ 52) 2
  -- five nodes weigh 1, 4, 2, 4, 1
  pub weights : map (weight 5) (0 ∷ 1 ∷ 2 ∷ 3 ∷ 4 ∷ []) ≡ num 1 ∷ num 4 ∷ num 2 ∷ num 4 ∷ num 1 ∷ []
  -- DFN n_r = 2, profile (10, 20), M 100, no flux: (20, 20)
  pub two_nodes_lem : (solid_after two_nodes (num 10 ∷ num 20 ∷ replicate 510 (num 0)) 1).c ≡ num 20 ∷ num 20 ∷ replicate 510 (num 0)

pub worked_examples : WorkedExamples
unfolding exp_of powered series squarings ln_of ln_split ln_parts terms sqrt_of rounded whole_root root_below asinh_taylor asinh_of ceil_of plan_refusal finished first_by all_below turns_from for_range unless_refused try_range candidate larger pivot_of swapped rows_swapped row_reduced row_less row_cleared column_cleared pivot_taken column_with column_done eliminated taken_out column_solved substituted place_loaded row_loaded matrix_loaded loaded reduced solution input_refusal solution_refusal answer solved refusal_unless first_refusal inner_weight weight places_by d_solids inner_with surface_with centre_with node_with particle_with particles_with surfaces_with solid_after is_nan lt le add sub mul div neg round of_int size of_bits to_bits
worked_examples = record {
  exp_0 = refl;
  ln_1 = refl;
  ln_2 = refl;
  sqrt_least = refl;
  sqrt_minus_0 = refl;
  asinh_minus_0 = refl;
  identity = refl;
  crossed = refl;
  least_pivot = refl;
  below_least = refl;
  count_4096 = record { passes = refl; reports = λ s after r h. rw (is_true (finite_step after r) h) refl };
  count_above_1 = record { passes = refl; reports = λ s after r h. rw (is_true (finite_step after r) h) refl };
  weights = refl;
  two_nodes_lem = refl;
}
