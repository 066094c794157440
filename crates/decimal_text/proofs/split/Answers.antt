-- `decimal_text::split` meets its contract. Assumes nothing.
use Rattle.std.proofs.Common.{refl, sym, ◌∙◌}
use Rattle.decimal_text.specs.Digits.{is_at}
use Rattle.decimal_text.specs.DecimalText.{split_of}
use Rattle.decimal_text.proofs.InParts.{is_decimal_lem, split-is}
use Rattle.decimal_text.proofs.split.Goals as goal

pub returns-then-not-whole_text : goal.returns-then-not-whole_text
unfolding split_of
returns-then-not-whole_text c =
    let s = c.args.s.now in
    let test = is_decimal_lem s c.past-from.result c.past-after_point.result c.past-sign.result c.past-after_sign.result c.digit_run-whole.result c.digit_run-fraction.result c.digit_run-exponent.result (is_at s 0 45 45) (is_at s c.past-sign.result 45 45)
    c.past-from.ensures c.digit_run-whole.ensures c.past-after_point.ensures c.digit_run-fraction.ensures c.past-sign.ensures c.past-after_sign.ensures c.digit_run-exponent.ensures refl refl in
    rw (sym test ∙ c.if-not-whole_text.true)

pub returns : goal.returns
unfolding split_of
returns c =
    let s = c.args.s.now in
    let test = is_decimal_lem s c.past-from.result c.past-after_point.result c.past-sign.result c.past-after_sign.result c.digit_run-whole.result c.digit_run-fraction.result c.digit_run-exponent.result c.is_at.result c.is_at-2.result
    c.past-from.ensures c.digit_run-whole.ensures c.past-after_point.ensures c.digit_run-fraction.ensures c.past-sign.ensures c.past-after_sign.ensures c.digit_run-exponent.ensures c.is_at.ensures c.is_at-2.ensures in
    rw (
      sym test ∙ c.if-not-whole_text.false,
      ← split-is s c.past-from.result c.past-after_point.result c.past-sign.result c.past-after_sign.result c.digit_run-whole.result c.digit_run-fraction.result c.digit_run-exponent.result c.is_at.result c.is_at-2.result
          c.past-from.ensures c.digit_run-whole.ensures c.past-after_point.ensures c.digit_run-fraction.ensures c.past-sign.ensures c.past-after_sign.ensures c.digit_run-exponent.ensures c.is_at.ensures c.is_at-2.ensures,
    )
