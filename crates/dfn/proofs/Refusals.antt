-- Which of several numbers a chain of tests has met, and what a build answers with it. Assumes nothing.
use Rattle.std.proofs.Common.{◌≡◌, ℕ, suc, Bool, true, false, ◌&&◌, arith}
use Rattle.std.proofs.Math.Dec.{eqb-suc-zero}
use Rattle.refusal.specs.Numbers.{first_refusal, refusal_unless, sheet}
use Rattle.dfn_parameters.specs.declared.DfnParams.{DfnParams}
use Rattle.dfn_parameters.specs.declared.DfnConfig.{DfnConfig}
use Rattle.dfn.specs.Build.{new_refusal, fresh, no_cell, made}
use Rattle.dfn.specs.declared.DfnSolver.{DfnSolver}

pub first_met : (k a b : ℕ) → suc k ≡ a → suc k ≡ first_refusal a b
unfolding first_refusal
first_met k a b h = rw (← h, eqb-suc-zero)

pub second_met : (n a b : ℕ) → 0 ≡ a → n ≡ b → n ≡ first_refusal a b
unfolding first_refusal
second_met n a b h e = rw (← h, e)

-- a sheet of which a part is tested first
pub sheet_fails : (a b : Bool) (k : ℕ) → suc k ≡ refusal_unless a sheet → suc k ≡ refusal_unless (a && b) sheet
unfolding refusal_unless
sheet_fails true b k h = absurd (omega (arith, h))
sheet_fails false b k h = h

pub sheet_passes : (a b : Bool) (n : ℕ) → 0 ≡ refusal_unless a sheet → n ≡ refusal_unless b sheet → n ≡ refusal_unless (a && b) sheet
unfolding refusal_unless
sheet_passes true b n z h = h
sheet_passes false b n z h = absurd (omega (arith, z))

pub first_of_six : (a b c d e f : Bool) (n : ℕ) → 0 ≡ refusal_unless a sheet → n ≡ refusal_unless (b && c && d && e && f) sheet
    → n ≡ refusal_unless (a && b && c && d && e && f) sheet
unfolding refusal_unless
first_of_six true b c d e f n z h = h
first_of_six false b c d e f n z h = absurd (omega (arith, z))

module _ (p : DfnParams) (g : DfnConfig) where
  pub build_refused : (k : ℕ) → suc k ≡ new_refusal p g → record { refusal = suc k; cell = no_cell } ≡ made p g
  unfolding made
  build_refused k h = rw (← h, eqb-suc-zero)

  pub build_made : (d : DfnSolver) → 0 ≡ new_refusal p g → d ≡ fresh p g → record { refusal = 0; cell = d } ≡ made p g
  unfolding made
  build_made d h e = rw (← h, e)
