-- An interval dt in equal parts. Their count is the least whole number not below dt ⊘ w, where w is above 0 and at most dt; a part, dt ⊘ count, is longer than w by
-- roundings alone. Assumes nothing.
use Rattle.std.specs.Prelude.{ℕ, ◌*◌, ◌^◌, ◌≤◌, ◌≡◌, refl, true, false, not, [], ◌∷◌, T, pos, Float}
use Rattle.std.proofs.Common.{inl, inr, le_trans, arith, lit≤}
use Rattle.std.specs.Float.{nan, inf, fin, binary64}
use Rattle.std.specs.Float.Ieee.{le, lt, eq, fits, of_bits, is_nan}
use Rattle.std.specs.Float.Ieee.Bits.{is_false}
use Rattle.std.specs.Float.Ieee.Positive.{num, den, positive, between}
use Rattle.std.specs.Float.Ieee.Scale.{finite}
use Rattle.fraction.specs.Integer.{pos-≤}
use Rattle.fraction.specs.Fraction.{Fraction, whole, nat, pow2, ◌+F◌, neg_f, ◌-F◌, ◌*F◌, ◌/F◌, inv, ◌≈F◌, ◌≤F◌, ◌<F◌}
use Rattle.fraction.proofs.Field.{≈F-sym, ≤F-of-≈F, ≤F-trans, le_or_lt, le_of_lt, lt_not_le, nn-nat_f}
use Rattle.fraction.proofs.Certificate.{quote}
use Rattle.fraction.proofs.Certificate.{le_by, within_by, up, hi, lo, num as some, eqn, ◌⊞◌, ◌⊠◌, ◌·◌, ◌&◌}
use Rattle.fraction.proofs.Inverse.{mul_inv, inv_nn}
use Rattle.fraction.proofs.Order.{lit≤F, lit<F, nat_lt, lt_le_trans}
use Rattle.fraction.proofs.Size.{Size, size_pos, size_wider}
use Rattle.fraction.proofs.Within.{within_self}
use Rattle.binary64.specs.Operators.{◌⊘◌, f64, count}
use Rattle.binary64.specs.Error.{u, u_nn}
use Rattle.binary64.proofs.Error.{rounding_error}
use Rattle.binary64.specs.Order.{between_finite}
use Rattle.binary64.proofs.OrderLaws.{rounds_le, stays_above, positive-finite, positive_num}
use Rattle.binary64.proofs.Rounds.{Rounds, representable, div_rounds}
use Rattle.binary64.specs.Value.{val, int_finite}
use Rattle.binary64.proofs.Value.{le_val, int_val}
use Rattle.binary64.specs.Literals.{«1·0», «4096·0»}
use Rattle.min_max.specs.Count.{ceil_of}
use Rattle.min_max.proofs.ChoiceLaws.{not_lt_le}
use Rattle.min_max.proofs.CountLaws.{count_reaches, count_positive}
use Rattle.solver_laws.specs.Electrodes.{count_below}

-- ---- 1, 4,096 and 8,192
abbrev beyond : Float
beyond = f64 0x40c0_0000_0000_0000

pub record Limits : Type 0 where
  one_fine : T (finite «1·0»)
  one_fits : T (fits binary64 «1·0»)
  one_positive : T (positive «1·0»)
  one_low : val «1·0» ≤F nat 1
  pub most_fine : T (finite «4096·0»)
  pub most_positive : T (positive «4096·0»)
  most_number : is_nan «4096·0» ≡ false
  beyond_fine : T (finite beyond)
  beyond_fits : T (fits binary64 beyond)
  beyond_high : val beyond ≤F pow2 13
  apart : val «4096·0» <F val beyond

pub limits : Limits
unfolding is_nan of_bits fits val whole
limits = record {
  one_fine = tt;
  one_fits = tt;
  one_positive = tt;
  one_low = lit≤F tt;
  most_fine = tt;
  most_positive = tt;
  most_number = refl;
  beyond_fine = tt;
  beyond_fits = tt;
  beyond_high = lit≤F tt;
  apart = lit<F tt;
}

number : (q : Float) → T (le «1·0» q) → is_nan q ≡ false
unfolding le lt eq is_nan of_bits
number nan h = absurd h
number (inf s) h = refl
number (fin s m e) h = refl

reached : (q : Float) → T (positive q) → (n : ℕ) → num q ≤ n * den q → val q ≤F nat n
unfolding val whole
reached nan p n l = absurd p
reached (inf s) p n l = absurd p
reached (fin true m e) p n l = absurd p
reached (fin false m e) p n l = record { cross = pos-≤ (omega (arith, l)) }

twice_u : nat 2 *F u ≤F nat 1
unfolding u whole ◌*F◌
twice_u = lit≤F tt

-- ---- w is above 0 and at most dt
module _ (dt w : Float) (fine : T (finite dt)) (above : nat 0 <F val w) (below : val w ≤F val dt) where
  abbrev q : Float
  q = dt ⊘ w

  abbrev N : ℕ
  N = ceil_of q

  -- the quotient, not rounded
  abbrev X : Fraction
  X = val dt /F val w

  rounds : Rounds X q
  rounds = div_rounds dt w fine (positive-finite w above) (positive_num w above)

  X-low : nat 1 ≤F X
  X-low = le_by (val dt ∷ val w ∷ inv (val w) ∷ []) 0 (up below ⊠ inv_nn above ⊞ eqn (neg_f (nat 1) · mul_inv above)) (search quote depth 24) tt

  X-nn : nat 0 ≤F X
  X-nn = ≤F-trans (nn-nat_f 1) X-low

  q_low : T (le «1·0» q)
  q_low = rounds_le (representable «1·0» limits.one_fine limits.one_fits) rounds (≤F-trans limits.one_low X-low)

  pub quotient_positive : (high : Float) → T (positive high) → T (le q high) → T (positive q)
  quotient_positive high p l = between «1·0» q high limits.one_positive p q_low l

  pub quotient_high : T (not (lt «4096·0» q)) → T (le q «4096·0»)
  quotient_high few = not_lt_le «4096·0» q limits.most_number (number q q_low) (is_false (lt «4096·0» q) few)

  module _ (few : T (not (lt «4096·0» q))) where
    q_high : T (le q «4096·0»)
    q_high = quotient_high few

    q_positive : T (positive q)
    q_positive = quotient_positive «4096·0» limits.most_positive q_high

    q_fine : T (finite q)
    q_fine = between_finite «1·0» q «4096·0» limits.one_fine limits.most_fine q_low q_high

    X-high : X ≤F pow2 13
    X-high = elim (le_or_lt (val beyond) X) [
      | inl h ↦ absurd (lt_not_le limits.apart (≤F-trans (stays_above beyond rounds q_fine limits.beyond_fine limits.beyond_fits h) (le_val q «4096·0» q_fine limits.most_fine q_high)))
      | inr h ↦ ≤F-trans (le_of_lt h) limits.beyond_high
    ]

    X-size : Size X 1022 1023
    X-size = size_wider {e = 0} {f = 13} 1022 1023 (record { low = le_by (X ∷ []) 0 (up X-low) (search quote depth 24) tt; high = X-high }) (lit≤ tt) (lit≤ tt)

    -- the count reaches the quotient but for its rounding
    N-small : N ≤ 2 ^ 53
    N-small = le_trans (count_below q few) (lit≤ tt)

    abbrev C : Fraction
    C = val (count N)

    C-is : C ≈F nat N
    C-is = int_val (pos N) N-small

    C-above : nat 0 <F C
    C-above = lt_le_trans (nat_lt 0 N (count_positive q q_positive)) (≤F-of-≈F (≈F-sym C-is))

    reach : X -F X *F u ≤F C
    reach =
        let l = count_below q few in
        let c = rounding_error rounds (within_self X-nn) X-size in
        let r = reached q q_positive N (count_reaches q q_positive (omega (arith, l))) in
        le_by (X ∷ val q ∷ nat N ∷ C ∷ u ∷ []) 0 (lo c.near ⊞ up r ⊞ eqn (neg_f (nat 1) · C-is)) (search quote depth 24) tt

    -- a part, not rounded
    abbrev Y : Fraction
    Y = val dt /F C

    Y-nn : nat 0 ≤F Y
    Y-nn = ≤F-trans (le_of_lt above) below ⊠ inv_nn C-above

    Y-reach : Y -F Y *F u ≤F val w
    Y-reach = le_by (val dt ∷ val w ∷ inv (val w) ∷ C ∷ inv C ∷ u ∷ []) 0
        (up reach ⊠ le_of_lt above ⊠ inv_nn C-above ⊞ eqn (val w · mul_inv C-above & (neg_f (val dt *F inv C) +F val dt *F inv C *F u) · mul_inv above)) (search quote depth 24) tt

    -- B is twice w or more: A PART is at most w and 2·B / 2 ^ 53
    module _ (B : Fraction) (size : Size B 1022 1023) (twice : nat 2 *F val w ≤F B) where
      Y-high : Y ≤F B
      Y-high = le_by (val dt ∷ inv C ∷ val w ∷ B ∷ u ∷ []) 0 (up twice ⊞ some 2 ⊠ up Y-reach ⊞ up twice_u ⊠ Y-nn) (search quote depth 24) tt

      pub part_most : val (dt ⊘ count N) ≤F val w +F B *F (nat 2 *F u)
      part_most =
          let r : Rounds Y (dt ⊘ count N) = div_rounds dt (count N) fine (int_finite (pos N) N-small) (positive_num (count N) C-above) in
          let c = rounding_error r (within_by (Y ∷ B ∷ []) 0 (up Y-high) (Y-nn ⊞ le_of_lt (size_pos size)) (search quote depth 24) tt tt) size in
          le_by (val (dt ⊘ count N) ∷ Y ∷ val w ∷ B ∷ u ∷ []) 0 (hi c.near ⊞ up Y-reach ⊞ up Y-high ⊠ u_nn) (search quote depth 24) tt
