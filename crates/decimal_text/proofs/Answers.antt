-- What the parts of a text lead to. Assumes nothing.
use Rattle.std.proofs.Common.{◌≡◌, ℕ, ◌<◌, ◌≤◌, min, Bool, true, false, cond, List, Result, Ok, Err, Float, Option, Some, None, refl, sym, ap, arith, le-leb}
use borrow.Author.Tests.{lt-leb}
use Rattle.std.specs.Option.{ok_or}
use Rattle.std.specs.Float.Ieee.{neg}
use Rattle.decimal_text.specs.Digits.{most}
use Rattle.decimal_text.specs.DecimalText.{parts_of, split_of, is_decimal, exponent_of, scaled_by, signed, number_of}
use Rattle.decimal_text.specs.declared.Parts.{Parts}
use Rattle.decimal_text.specs.declared.DecimalError.{DecimalError}
use Rattle.decimal_text.specs.declared.DecimalError.TheVariants.{TooLong, NotDecimal}
use Rattle.decimal_text.proofs.Cut.{scaled_cut}

pub split_none : (s : List ℕ) (e : DecimalError) → split_of s ≡ Err e → Err e ≡ number_of s
unfolding split_of number_of
split_none s e h = go (is_decimal s) _ h
  where
    go : (t : Bool) (r : Result Float DecimalError) → cond t (Ok (parts_of s)) (Err NotDecimal) ≡ Err e → Err e ≡ cond t r (Err NotDecimal)
    go true r h = cc
    go false r h = sym cc

pub split_some : (s : List ℕ) (p : Parts) → split_of s ≡ Ok p → (is_decimal s ≡ true) × (p ≡ parts_of s)
unfolding split_of
split_some s p h = go (is_decimal s) refl h
  where
    go : (t : Bool) → is_decimal s ≡ t → cond t (Ok (parts_of s)) (Err NotDecimal) ≡ Ok p → (is_decimal s ≡ true) × (p ≡ parts_of s)
    go true q h = (q, cc)
    go false q h = cc

module _ (s : List ℕ) (p : Parts) (q : split_of s ≡ Ok p) where
  e : p ≡ parts_of s
  e = (split_some s p q).1

  is_exponent : p.exponent ≡ min (exponent_of s) most
  unfolding parts_of
  is_exponent = ap (λ (q : Parts). q.exponent) e

  pub read_long : 999 < p.exponent → Err TooLong ≡ number_of s
  unfolding number_of
  read_long h = let m : 999 < exponent_of s = omega (arith, is_exponent) in rw ((split_some s p q).0, lt-leb (exponent_of s) 999 m)

  pub read_number : p.exponent ≤ 999 → signed p.negative (scaled_by p.digits p.places p.exponent p.down) ≡ number_of s
  unfolding number_of parts_of
  read_number h =
      let m : exponent_of s ≤ 999 = omega (arith, is_exponent) in
      let k : min (exponent_of s) most ≡ exponent_of s = omega arith in
      rw ((split_some s p q).0, le-leb (exponent_of s) 999 m, e, k, scaled_cut)

  pub digits_most : p.digits ≤ most
  unfolding parts_of
  digits_most = rw (ap (λ (q : Parts). q.digits) e) (omega arith)

-- a number that is read or not, with its sign
pub size_none : (n : Bool) (r : Option Float) (e : DecimalError) → ok_or r TooLong ≡ Err e → Err e ≡ signed n r
unfolding signed
size_none true None e h = sym h
size_none false None e h = sym h
size_none n (Some x) e h = cc

pub size_some : (n : Bool) (r : Option Float) (x : Float) → ok_or r TooLong ≡ Ok x → Ok (cond n (neg x) x) ≡ signed n r
unfolding signed
size_some n None x h = cc
size_some true (Some y) x h = let e : y ≡ x = cc in rw e
size_some false (Some y) x h = sym h
