-- `replay_run::lines::hex_word` meets its contract: after k turns, k digits are read. Assumes nothing.
use Rattle.std.proofs.Common.{◌<◌, refl, ap, ◌∙◌, arith, add-one}
use Rattle.iterate.specs.Iterate.{all_below}
use Rattle.std.specs.Prelude.{is_some, unwrap_or}
use Rattle.replay_run.specs.Lines.{is_digit, digit_of, number_at, number_fits}
use Rattle.replay_run.proofs.Digits.{read_digit, read_value, part_length, part_byte}
use Rattle.replay_run.proofs.lines.hex_word.Goals as goal

pub loop-b-init : goal.loop-b-init
unfolding all_below number_at
loop-b-init c =
    (refl, refl)

pub overflow_mul-bits : goal.overflow_mul-bits
overflow_mul-bits c =
    let a = c.args in
    let l : c.loop-b.b-index < 16 = omega (arith, part_length a.text.now a.a c.requires, c.loop-b-test.true) in
    omega (arith, c.loop-b.invariant.1, number_fits a.text.now a.a c.loop-b.b-index l)

pub overflow_add-bits : goal.overflow_add-bits
overflow_add-bits c =
    let a = c.args in
    let k = c.loop-b.b-index in
    let l : k < 16 = omega (arith, part_length a.text.now a.a c.requires, c.loop-b-test.true) in
    let e = c.unwrap_or.ensures ∙ ap (λ o. unwrap_or o 0) c.digit-value.ensures ∙ read_value _ in
    omega (arith, c.loop-b.invariant.1, e ∙ ap digit_of (part_byte a.text.now a.a k l), number_fits a.text.now a.a k l)

pub loop-b-preserved : goal.loop-b-preserved
unfolding all_below number_at
loop-b-preserved c =
    let a = c.args in
    let k = c.loop-b.b-index in
    let l : k < 16 = omega (arith, part_length a.text.now a.a c.requires, c.loop-b-test.true) in
    let b = part_byte a.text.now a.a k l in
    let p = c.is_some-digits.ensures ∙ ap is_some c.digit-value.ensures ∙ read_digit _ ∙ ap is_digit b in
    let e = c.unwrap_or.ensures ∙ ap (λ o. unwrap_or o 0) c.digit-value.ensures ∙ read_value _ ∙ ap digit_of b in
    (rw (add-one, c.loop-b.invariant.0, p), rw (add-one, c.loop-b.invariant.1, e))
