-- What clamp, max and min give is where it should be: in the clamp's range, at least both, at most both. A NaN is no number, and infinities are. Assumes nothing.
use Rattle.std.proofs.Common.{◌≡◌, ◌*◌, Bool, true, false, cond, ◌||◌, T, sym, refl, ap, ◌∙◌, subst, true≢false, le_refl}
use mathlib.Core.Bool.{false≢true}
use lib.Ieee.{Float, nan, inf, fin, up, down, lt, le, eq, is_nan}
use lib.Ieee.Bits.{is_true}
use lib.Ieee.Scale.{finite}
use Rattle.binary64.specs.Order.{below→le, not→lt, between_finite}
use Rattle.min_max.specs.MinMax.{clamp_of, max_of, min_of}

-- ---- the order of floats that are no NaN
pub lt_le : (x y : Float) → lt x y ≡ true → T (le x y)
unfolding le
lt_le x y h = subst (λ (b : Bool). T (b || eq x y)) (sym h) tt

pub le_itself : (x : Float) → is_nan x ≡ false → T (le x x)
unfolding le is_nan
le_itself nan n = absurd (true≢false n)
le_itself (inf true) n = tt
le_itself (inf false) n = tt
le_itself (fin true m e) n = below→le (fin true m e) (fin true m e) tt tt (le_refl (m * up e * down e))
le_itself (fin false m e) n = below→le (fin false m e) (fin false m e) tt tt (le_refl (m * up e * down e))

pub not_lt_le : (x y : Float) → is_nan x ≡ false → is_nan y ≡ false → lt x y ≡ false → T (le y x)
unfolding le is_nan lt
not_lt_le nan y n k h = absurd (true≢false n)
not_lt_le (inf s) nan n k h = absurd (true≢false k)
not_lt_le (fin s m e) nan n k h = absurd (true≢false k)
not_lt_le (inf true) (inf true) n k h = tt
not_lt_le (inf true) (inf false) n k h = absurd (true≢false h)
not_lt_le (inf false) (inf true) n k h = tt
not_lt_le (inf false) (inf false) n k h = tt
not_lt_le (inf true) (fin t j d) n k h = absurd (true≢false h)
not_lt_le (inf false) (fin t j d) n k h = tt
not_lt_le (fin s m e) (inf true) n k h = tt
not_lt_le (fin s m e) (inf false) n k h = absurd (true≢false h)
not_lt_le (fin s m e) (fin t j d) n k h = go (le (fin t j d) (fin s m e)) refl
  where
    go : (b : Bool) → le (fin t j d) (fin s m e) ≡ b → T b
    go true q = tt
    go false q = absurd (false≢true (sym h ∙ is_true (lt (fin s m e) (fin t j d)) (not→lt (fin s m e) (fin t j d) tt tt (λ u. subst T q u))))

-- ---- clamp
pub record Clamped (lo r hi : Float) : Type 0 where
  pub low : T (le lo r)
  pub high : T (le r hi)

module _ (x lo hi : Float) (n : is_nan x ≡ false) (l : is_nan lo ≡ false) (h : is_nan hi ≡ false) where
  pub clamp_in : T (le lo hi) → Clamped lo (clamp_of x lo hi) hi
  clamp_in o = first (lt x lo) refl
    where
      second : (y : Float) → is_nan y ≡ false → T (le lo y) → (b : Bool) → lt hi y ≡ b → Clamped lo (cond b hi y) hi
      second y k q true e = record { low = o; high = le_itself hi h }
      second y k q false e = record { low = q; high = not_lt_le hi y h k e }

      first : (b : Bool) → lt x lo ≡ b → Clamped lo (cond (lt hi (cond b lo x)) hi (cond b lo x)) hi
      first true e = second lo l (le_itself lo l) (lt hi lo) refl
      first false e = second x n (not_lt_le x lo n l e) (lt hi x) refl

  -- between finite limits it is finite, from an infinity too
  pub clamp_finite : T (finite lo) → T (finite hi) → T (le lo hi) → T (finite (clamp_of x lo hi))
  clamp_finite p q o = let c = clamp_in o in between_finite lo (clamp_of x lo hi) hi p q c.low c.high

-- what is in the range stays as it is
pub clamp_same : (x lo hi : Float) → lt x lo ≡ false → lt hi x ≡ false → clamp_of x lo hi ≡ x
clamp_same x lo hi h k = ap (λ (b : Bool). cond (lt hi (cond b lo x)) hi (cond b lo x)) h ∙ ap (λ (b : Bool). cond b hi x) k

-- ---- max and min: of two numbers, at least or at most both; beside a NaN, the number
module _ (a b : Float) (k : is_nan b ≡ false) where
  pub max_second : T (le b (max_of a b))
  max_second = go (is_nan a) (lt a b) refl refl
    where
      go : (s t : Bool) → is_nan a ≡ s → lt a b ≡ t → T (le b (cond (s || t) b a))
      go true t e f = le_itself b k
      go false true e f = le_itself b k
      go false false e f = not_lt_le a b e k f

  pub min_second : T (le (min_of a b) b)
  min_second = go (is_nan a) (lt b a) refl refl
    where
      go : (s t : Bool) → is_nan a ≡ s → lt b a ≡ t → T (le (cond (s || t) b a) b)
      go true t e f = le_itself b k
      go false true e f = le_itself b k
      go false false e f = not_lt_le b a k e f

module _ (a b : Float) (n : is_nan a ≡ false) where
  pub max_first : T (le a (max_of a b))
  max_first = subst (λ (s : Bool). T (le a (cond (s || lt a b) b a))) (sym n) (go (lt a b) refl)
    where
      go : (t : Bool) → lt a b ≡ t → T (le a (cond t b a))
      go true f = lt_le a b f
      go false f = le_itself a n

  pub min_first : T (le (min_of a b) a)
  min_first = subst (λ (s : Bool). T (le (cond (s || lt b a) b a) a)) (sym n) (go (lt b a) refl)
    where
      go : (t : Bool) → lt b a ≡ t → T (le (cond t b a) a)
      go true f = lt_le b a f
      go false f = le_itself a n
