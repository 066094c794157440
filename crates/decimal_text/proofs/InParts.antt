-- The parts of a text are found one after the other. Assumes nothing.
use Rattle.std.proofs.Common.{◌≡◌, ℕ, ◌-◌, min, Bool, true, false, cond, not, ◌&&◌, ◌||◌, eqb, ltb, List, length, drop, refl, ◌∙◌}
use Rattle.decimal_text.specs.Digits.{most, is_at, past_either, digits_end, value_with}
use Rattle.decimal_text.specs.DecimalText.{parts_of, whole_from, whole_end, fraction_from, fraction_end, exponent_sign, exponent_from, exponent_end, is_decimal, digits_of, exponent_of}
use Rattle.decimal_text.specs.declared.Parts.{Parts}
use Rattle.decimal_text.specs.declared.Run.{Run}
use Rattle.decimal_text.proofs.Runs.{value_cut}

-- either way of an 'e' that is there or not, as one test
either_way : (marked digits none : Bool) → (marked && digits) || (not marked && none) ≡ cond marked digits none
either_way true true none = refl
either_way true false none = refl
either_way false digits none = refl

module _ (s : List ℕ) (from point sign exponent : ℕ) (whole fraction power : Run) (negative down : Bool)
    (e-from : from ≡ past_either s 0 43 45)
    (e-whole : (whole.end ≡ digits_end s from) × (whole.value ≡ min (value_with 0 (drop from s)) most))
    (e-point : point ≡ past_either s whole.end 46 46)
    (e-fraction : (fraction.end ≡ digits_end s point) × (fraction.value ≡ min (value_with whole.value (drop point s)) most))
    (e-sign : sign ≡ past_either s fraction.end 101 69)
    (e-exponent : exponent ≡ past_either s sign 43 45)
    (e-power : (power.end ≡ digits_end s exponent) × (power.value ≡ min (value_with 0 (drop exponent s)) most))
    (e-negative : negative ≡ is_at s 0 45 45)
    (e-down : down ≡ is_at s sign 45 45)
  where
    is_from : from ≡ whole_from s
    unfolding whole_from
    is_from = e-from

    is_point : whole.end ≡ whole_end s
    unfolding whole_end
    is_point = rw is_from at e-whole.0

    is_fraction : point ≡ fraction_from s
    unfolding fraction_from
    is_fraction = rw is_point at e-point

    is_mark : fraction.end ≡ fraction_end s
    unfolding fraction_end
    is_mark = rw is_fraction at e-fraction.0

    is_sign : sign ≡ exponent_sign s
    unfolding exponent_sign
    is_sign = rw is_mark at e-sign

    is_exponent : exponent ≡ exponent_from s
    unfolding exponent_from
    is_exponent = rw is_sign at e-exponent

    is_end : power.end ≡ exponent_end s
    unfolding exponent_end
    is_end = rw is_exponent at e-power.0

    is_digits : fraction.value ≡ min (digits_of s) most
    unfolding digits_of
    is_digits = e-fraction.1 ∙ rw (e-whole.1, is_from, is_fraction) (value_cut (value_with 0 (drop (whole_from s) s)) (drop (fraction_from s) s))

    is_power : power.value ≡ min (exponent_of s) most
    unfolding exponent_of
    is_power = rw is_exponent at e-power.1

    abbrev has : Bool
    has = (ltb fraction.end sign && ltb exponent power.end) || (not (ltb fraction.end sign) && eqb fraction.end power.end)

    pub is_decimal_lem : (eqb power.end (length s) && (ltb from whole.end || ltb point fraction.end)) && has ≡ is_decimal s
    unfolding is_decimal
    is_decimal_lem = rw (either_way (ltb fraction.end sign) (ltb exponent power.end) (eqb fraction.end power.end), is_from, is_point, is_fraction, is_mark, is_sign, is_exponent, is_end)

    pub split-is :
        ◌≡◌ {A = Parts}
        (record {
          digits = fraction.value;
          places = fraction.end - point;
          exponent = power.value;
          negative = negative;
          down = down;
        })
        (parts_of s)
    unfolding parts_of
    split-is = rw (is_digits, is_power, is_mark, is_fraction, e-negative, e-down, is_sign)
