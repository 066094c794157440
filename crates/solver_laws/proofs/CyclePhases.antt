-- The phases of a cycle in its rows: each call is that of one of the first `count` phases, and each phase makes at least one step. Assumes nothing.
use Prim.Native.Nat.{ℕ, zero, suc, ◌+◌, ◌*◌, ◌≤◌}
use Rattle.std.specs.Prelude.{◌≡◌, Bool, length, Float}
use Rattle.std.proofs.Math.Path.{refl, sym, ap}
use Rattle.std.proofs.Common.{◌∙◌, true≢false, zero-mul, add_comm}
use Rattle.std.proofs.Math.Bool.{true, false}
use mathlib.Core.List.{List, [], ◌∷◌}
use native.Mathlib.Omega.{arith}
use Rattle.std.proofs.Math.Nat.{suc-mul}
use Rattle.std.proofs.Math.ListN.{length-append}
use Rattle.binary64.specs.Operators.{◌⊕◌}
use Rattle.runs.specs.Endings.{by_done}
use Rattle.diffusion.specs.Run.{Each}
use Rattle.solver.specs.declared.SpmSolver.{SpmSolver}
use Rattle.cycle_run.specs.declared.phases.Phase.{Phase}
use Rattle.cycle_run.specs.declared.CycleSettings.{CycleSettings}
use Rattle.cycle_run.specs.Phases.{phase_over, phases_from, repeated, written_out}
use Rattle.cycle_run.specs.Cycle.{progress_after, none_left_of, cycled}
use Rattle.solver_laws.specs.AcceptedLists.{each_append}
use Rattle.solver_laws.specs.CycleCalls.{call_of, OfPhase, Made, made_next, made_by, calls_of, phases_left}
use Rattle.solver_laws.proofs.CycleLists.{cycle_done_only}

module _ (l : List Phase) (g : CycleSettings) (s : SpmSolver) where
  -- ---- what each phase and each call is
  abbrev pub IsPhase : Phase → Type 0
  IsPhase p = OfPhase l g (call_of g p)

  phases_from_lem : (k n : ℕ) → k + n ≤ g.count → Each IsPhase (phases_from l k n)
  unfolding phases_from
  phases_from_lem k zero h = Each.none
  phases_from_lem k (suc n) h = Each.more (record { place = k; meant = omega (arith, h); same = refl }) (phases_from_lem (suc k) n (omega (arith, h)))

  phases_repeated : (n : ℕ) → Each IsPhase (repeated n (phases_from l 0 g.count))
  unfolding repeated
  phases_repeated zero = Each.none
  phases_repeated (suc n) = each_append (phases_from_lem 0 g.count (omega arith)) (phases_repeated n)

  kept_phases : (p : Phase) (rest : List Phase) (clock : Float) (cutoff b : Bool) → phase_over p cutoff (clock ⊕ g.dt) ≡ b → Each IsPhase (p ∷ rest)
      → Each IsPhase (progress_after g.dt p rest clock cutoff).phases
  unfolding progress_after
  kept_phases p rest clock cutoff true e (Each.more a bs) = rw e bs
  kept_phases p rest clock cutoff false e bs = rw e bs

  next_calls : (m : Made) (left : List Phase) → Each (OfPhase l g) m.calls → Each IsPhase m.progress.phases → Each IsPhase left
      → Each (OfPhase l g) (made_next l g s m left).calls × Each IsPhase (made_next l g s m left).progress.phases
  unfolding made_next
  next_calls m [] cs ps bs = (cs, ps)
  next_calls m (p ∷ rest) cs ps (Each.more a bs) = (each_append cs (Each.more a Each.none), kept_phases p rest _ _ _ refl (Each.more a bs))

  made_calls : (n : ℕ) → Each (OfPhase l g) (calls_of l g s n) × Each IsPhase (phases_left l g s n)
  unfolding made_by
  made_calls zero = (Each.none, phases_repeated g.repeats)
  made_calls (suc n) = let h = made_calls n in next_calls (made_by l g s n) (phases_left l g s n) h.0 h.1 h.1

  -- EVERY CALL is that of one of the first `count` phases: its current, and the cycle's interval and temperature
  pub cycle_calls : (n : ℕ) → Each (OfPhase l g) (calls_of l g s n)
  cycle_calls n = (made_calls n).0

  -- and so is every phase that is left
  pub cycle_phases : (n : ℕ) → Each IsPhase (phases_left l g s n)
  cycle_phases n = (made_calls n).1

  -- ---- each phase makes at least one step
  one_fewer : (p : Phase) (rest : List Phase) (clock : Float) (cutoff b : Bool) → phase_over p cutoff (clock ⊕ g.dt) ≡ b
      → length (p ∷ rest) ≤ suc (length (progress_after g.dt p rest clock cutoff).phases)
  unfolding progress_after
  one_fewer p rest clock cutoff true e = rw e (omega arith)
  one_fewer p rest clock cutoff false e = rw e (omega arith)

  next_fewer : (m : Made) (left : List Phase) → length left ≤ suc (length (made_next l g s m left).progress.phases)
  unfolding made_next
  next_fewer m [] = omega arith
  next_fewer m (p ∷ rest) = one_fewer p rest _ _ _ refl

  -- so each row takes at most one phase off the list written out
  pub phases_steps : (n : ℕ) → length (written_out l g.count g.repeats) ≤ n + length (phases_left l g s n)
  unfolding made_by
  phases_steps zero = omega arith
  phases_steps (suc n) = omega (arith, phases_steps n, next_fewer (made_by l g s n) (phases_left l g s n))

  from_length : (k n : ℕ) → length (phases_from l k n) ≡ n
  unfolding phases_from
  from_length k zero = refl
  from_length k (suc n) = ap suc (from_length (suc k) n)

  repeated_length : (n : ℕ) → length (repeated n (phases_from l 0 g.count)) ≡ n * g.count
  unfolding repeated
  repeated_length zero = sym (zero-mul g.count)
  repeated_length (suc n) =
      length-append (phases_from l 0 g.count) (repeated n (phases_from l 0 g.count)) ∙ rw (from_length 0 g.count, repeated_length n, suc-mul n g.count) (add_comm g.count (n * g.count))

  none_length : (left : List Phase) → none_left_of left ≡ true → length left ≡ 0
  none_length [] e = refl
  none_length (p ∷ rest) e = absurd (true≢false (sym e))

  -- A CYCLE THAT IS DONE has a row for each phase of each repeat, or more
  pub done_rows : (places : ℕ) → (cycled l g s places).ended.ending ≡ by_done → g.repeats * g.count ≤ (cycled l g s places).rows
  done_rows places d =
      let n = (cycled l g s places).rows in
      let z = none_length (phases_left l g s n) (cycle_done_only l g s places d) in
      let a = phases_steps n in
      let b = repeated_length g.repeats in
      omega (arith, a, b, z)
