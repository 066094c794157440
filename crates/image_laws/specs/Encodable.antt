-- What an image can hold of a row: numbers of binary64, the NaN among them. Assumes nothing.
use Rattle.std.specs.Prelude.{ℕ, zero, suc, ◌+◌, ◌≡◌, Bool, true, cond, ◌&&◌, ◌||◌, List, [], ◌∷◌, T, length, get_or, set, replicate, Float}
use Rattle.std.proofs.Common.{◌∙◌}
use Rattle.std.proofs.lemmas.List.{length-replicate}
use Rattle.std.specs.Float.{nan, inf, fin, binary64}
use Rattle.std.specs.Float.Ieee.{is_nan, lt, fits, of_bits}
use Rattle.std.specs.Float.Ieee.Bits.{of_bits-fits}
use Rattle.std.specs.Float.Ieee.Fits.{nan-fits, cond-fits, and_l, and_r}
use Rattle.binary64.specs.Operators.{f64}
use Rattle.binary64.specs.Literals.{«0·0»}
use Rattle.min_max.specs.MinMax.{abs_of, clamp_of, max_of}
use Rattle.iterate.specs.Iterate.{first_by, first_length}
use Rattle.array_update.specs.ArrayUpdate.{places_by}
use Rattle.codec.specs.Words.{float_at, places_at}

infixr 40 ◌∷ᵉ◌
-- each place is a number that binary64 holds
pub record EncodableRow (c : List Float) : Type 0 where
  pub place : (i : ℕ) → T (fits binary64 (get_or c i nan))

pub []ᵉ : EncodableRow []
[]ᵉ = record { place = λ i. nan-fits binary64 }

pub ◌∷ᵉ◌ : {x : Float} {c : List Float} → T (fits binary64 x) → EncodableRow c → EncodableRow (x ∷ c)
◌∷ᵉ◌ {x} {c} f h = record { place = go }
  where
    go : (i : ℕ) → T (fits binary64 (get_or (x ∷ c) i nan))
    go zero = f
    go (suc i) = h.place i

-- a row of closed numbers, by computation
unfoldable pub all_fit : List Float → Bool
all_fit [] = true
all_fit (x ∷ c) = fits binary64 x && all_fit c

pub closed_row : (c : List Float) → T (all_fit c) → EncodableRow c
unfolding all_fit
closed_row [] h = []ᵉ
closed_row (x ∷ c) h = and_l (fits binary64 x) (all_fit c) h ∷ᵉ closed_row c (and_r (fits binary64 x) (all_fit c) h)

-- ---- what is made of a row
pub tail_encodable : {x : Float} {c : List Float} → EncodableRow (x ∷ c) → EncodableRow c
tail_encodable h = record { place = λ i. h.place (suc i) }

pub set_encodable : (c : List Float) (i : ℕ) (x : Float) → T (fits binary64 x) → EncodableRow c → EncodableRow (set c i x)
set_encodable [] i x f h = h
set_encodable (y ∷ c) zero x f h = f ∷ᵉ tail_encodable h
set_encodable (y ∷ c) (suc i) x f h = h.place 0 ∷ᵉ set_encodable c i x f (tail_encodable h)

pub first_encodable : (k : ℕ) (g : ℕ → Float) (c : List Float) → ((i : ℕ) → T (fits binary64 (g i))) → EncodableRow c → EncodableRow (first_by k g c)
unfolding first_by
first_encodable zero g c f h = h
first_encodable (suc k) g c f h = set_encodable (first_by k g c) k (g k) (f k) (first_encodable k g c f h)

pub copies_encodable : (n : ℕ) (x : Float) → T (fits binary64 x) → EncodableRow (replicate n x)
copies_encodable zero x f = []ᵉ
copies_encodable (suc n) x f = f ∷ᵉ copies_encodable n x f

pub places_by-encodable : (base k : ℕ) (g : ℕ → Float) (c : List Float) → ((i : ℕ) → T (fits binary64 (g i))) → EncodableRow c → EncodableRow (places_by base k g c)
unfolding places_by
places_by-encodable base zero g c f h = h
places_by-encodable base (suc k) g c f h = set_encodable (places_by base k g c) (base + k) (g k) (f k) (places_by-encodable base k g c f h)

-- the first n places x, the others +0
pub filled_encodable : (size n : ℕ) (x : Float) → T (fits binary64 x) → EncodableRow (first_by n (λ i. x) (replicate size «0·0»))
filled_encodable size n x f = first_encodable n (λ i. x) (replicate size «0·0») (λ i. f) (copies_encodable size «0·0» (of_bits-fits binary64 0))

pub filled_length : (size n : ℕ) (x : Float) → length (first_by n (λ i. x) (replicate size «0·0»)) ≡ size
filled_length size n x = first_length (λ i. x) (replicate size «0·0») n ∙ length-replicate size «0·0»

-- ---- numbers that do not round
pub clamp_fits : (x lo hi : Float) → T (fits binary64 x) → T (fits binary64 lo) → T (fits binary64 hi) → T (fits binary64 (clamp_of x lo hi))
clamp_fits x lo hi f l h =
    let y = cond (lt x lo) lo x in
    cond-fits binary64 (lt hi y) hi y h (cond-fits binary64 (lt x lo) lo x l f)

pub max_fits : (a b : Float) → T (fits binary64 a) → T (fits binary64 b) → T (fits binary64 (max_of a b))
max_fits a b f g = cond-fits binary64 (is_nan a || lt a b) b a g f

pub abs_fits : (x : Float) → T (fits binary64 x) → T (fits binary64 (abs_of x))
unfolding fits
abs_fits nan f = f
abs_fits (inf s) f = f
abs_fits (fin s zero e) f = f
abs_fits (fin s (suc m) e) f = f

-- the numbers of a C call: any pattern of 64 bits
pub literal : (bits : ℕ) → T (fits binary64 (f64 bits))
literal bits = of_bits-fits binary64 bits

-- ---- what is read from an image
pub float_encodable : (s : List ℕ) (k : ℕ) → T (fits binary64 (float_at s k))
unfolding float_at
float_encodable s k = of_bits-fits binary64 _

pub places_encodable : (n : ℕ) (s : List ℕ) (at : ℕ) → EncodableRow (places_at n s at)
places_encodable n s at =
    first_encodable n (λ k. float_at s (at + k)) (replicate n (of_bits binary64 0)) (λ i. float_encodable s (at + i)) (copies_encodable n (of_bits binary64 0) (of_bits-fits binary64 0))

pub places_count : (n : ℕ) (s : List ℕ) (at : ℕ) → length (places_at n s at) ≡ n
places_count n s at = first_length (λ k. float_at s (at + k)) (replicate n (of_bits binary64 0)) n ∙ length-replicate n (of_bits binary64 0)
