-- `decimal_text::digit_run` meets its contract. Assumes nothing.
use Rattle.std.proofs.Common.{◌≡◌, true, false, get_or, sym, ◌∙◌, arith}
use native.Mathlib.Nat.{min-eq_left}
use Rattle.decimal_text.specs.Digits.{is_digit}
use Rattle.decimal_text.proofs.Runs.{turn_value, turn_end, stop_value, stop_end, over_value, run_end}
use Rattle.decimal_text.proofs.digit_run.Goals as goal

pub returns-then-not-is_ascii_digit : goal.returns-then-not-is_ascii_digit
returns-then-not-is_ascii_digit c =
    let loop = c.loop-at in
    let s = c.args.s.now in
    let d : is_digit (get_or s c.loop-at.at 0) ≡ false = sym c.is_ascii_digit.ensures.value ∙ c.if-not-is_ascii_digit.true in (
      omega (arith, stop_end loop.value s loop.at c.loop-at-test.true d),
      sym (min-eq_left loop.invariant.0) ∙ rw (stop_value loop.value s loop.at c.loop-at-test.true d) at loop.invariant.1,
    )

pub loop-at-preserved : goal.loop-at-preserved
loop-at-preserved c =
    let loop = c.loop-at in
    let s = c.args.s.now in
    let d : is_digit (get_or s c.loop-at.at 0) ≡ true = sym c.is_ascii_digit.ensures.value ∙ c.if-not-is_ascii_digit.false in (
      omega (arith, c.with_digit-value.ensures),
      rw c.with_digit-value.ensures (turn_value loop.value s loop.at c.loop-at-test.true d ∙ loop.invariant.1),
      turn_end loop.value s loop.at c.loop-at-test.true d ∙ loop.invariant.2,
    )

pub returns : goal.returns
returns c =
    let loop = c.loop-at in
    let s = c.args.s.now in (
      c.max.ensures ∙ run_end s c.args.from loop.at loop.auto.at loop.auto.at-end c.loop-at-test.false loop.invariant.2,
      sym (min-eq_left loop.invariant.0) ∙ rw (over_value loop.value s loop.at c.loop-at-test.false) at loop.invariant.1,
    )
