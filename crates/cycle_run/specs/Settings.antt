-- What a cycle that nothing refuses as a whole has met. Assumes nothing.
use Rattle.std.specs.Prelude.{ℕ, ◌*◌, ◌/◌, ◌≤◌, ◌≡◌, ◌&&◌, List, T, leb}
use Rattle.std.proofs.Common.{arith, zero-lt-suc, leb→le}
use Rattle.std.specs.Float.Ieee.Fits.{and_l, and_r}
use Rattle.refusal.specs.Numbers as N
use Rattle.refusal.specs.Ranges.{count_in_range}
use Rattle.solver.specs.declared.SpmSolver.{SpmSolver}
use Rattle.solver.specs.Cell.{grid_fits}
use Rattle.cycle_run.specs.declared.phases.Phase.{Phase}
use Rattle.cycle_run.specs.declared.CycleSettings.{CycleSettings}
use Rattle.cycle_run.specs.Cycle.{counts_fit, counts_refusal, cycle_refusal}

pub record Fit (g : CycleSettings) (places : ℕ) : Type 0 where
  pub phases_least : 1 ≤ g.count
  pub phases_most : g.count ≤ 8
  pub repeats_least : 1 ≤ g.repeats
  pub budget_least : 1 ≤ g.budget
  pub budget_most : g.budget ≤ 100000
  -- eight places for each step of the budget
  pub room : g.budget * 8 ≤ places

counts_fit_lem : (g : CycleSettings) (places : ℕ) → T (counts_fit g) → g.budget ≤ places / 8 → Fit g places
counts_fit_lem g places t r =
    let n = count_in_range g.count 1 8 in
    let m = count_in_range g.repeats 1 1000 in
    let b = count_in_range g.budget 1 100000 in
    let tn = and_l n m (and_l (n && m) b t) in
    let tm = and_r n m (and_l (n && m) b t) in
    let tb = and_r (n && m) b t in
    record {
      phases_least = leb→le 1 g.count (and_l (leb 1 g.count) (leb g.count 8) tn);
      phases_most = leb→le g.count 8 (and_r (leb 1 g.count) (leb g.count 8) tn);
      repeats_least = leb→le 1 g.repeats (and_l (leb 1 g.repeats) (leb g.repeats 1000) tm);
      budget_least = leb→le 1 g.budget (and_l (leb 1 g.budget) (leb g.budget 100000) tb);
      budget_most = leb→le g.budget 100000 (and_r (leb 1 g.budget) (leb g.budget 100000) tb);
      room = omega (arith, r);
    }

pub settings_fit : (l : List Phase) (g : CycleSettings) (s : SpmSolver) (places : ℕ) → cycle_refusal l g s places ≡ 0 → Fit g places
unfolding cycle_refusal counts_refusal
settings_fit l g s places h =
    let m = N.neither_refused _ _ (N.neither_refused _ _ h).0 in
    counts_fit_lem g places (and_r (grid_fits s) (counts_fit g) (N.passed (grid_fits s && counts_fit g) N.grid (zero-lt-suc 0) m.0))
    (leb→le g.budget (places / 8) (N.passed (leb g.budget (places / 8)) N.bad_length (zero-lt-suc 9) m.1))
