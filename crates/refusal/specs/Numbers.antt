-- The numbers of docs/REFERENCE.md's table of refusals, and which of several is answered. 0 is no refusal. Assumes nothing.
use Rattle.std.specs.Prelude.{ℕ, zero, suc, ◌<◌, ◌≡◌, refl, Bool, true, false, cond, T, eqb}
use Rattle.std.proofs.Common.{arith}
use Rattle.std.proofs.Math.Dec.{eqb-suc-zero}

-- ---- the table's words
abbrev pub grid : ℕ
grid = 1

abbrev pub sheet : ℕ
sheet = 2

abbrev pub load : ℕ
load = 3

abbrev pub interval : ℕ
interval = 4

abbrev pub temperature : ℕ
temperature = 5

abbrev pub diffusivity : ℕ
diffusivity = 6

abbrev pub sub_steps_value : ℕ
sub_steps_value = 7

abbrev pub not_finite_of : ℕ
not_finite_of = 8

abbrev pub singular : ℕ
singular = 9

abbrev pub bad_length : ℕ
bad_length = 10

abbrev pub line : ℕ
line = 11

abbrev pub file : ℕ
file = 12

abbrev pub index : ℕ
index = 13

-- none where the test passed, else the number
unfoldable pub refusal_unless : Bool → ℕ → ℕ
refusal_unless ok number = cond ok 0 number

-- "first met wins": a, and where a is none, b
unfoldable pub first_refusal : ℕ → ℕ → ℕ
first_refusal a b = cond (eqb a 0) b a

-- ---- what a call that nothing refuses has met
none_first : (a b : ℕ) → first_refusal a b ≡ 0 → a ≡ 0
unfolding first_refusal
none_first zero b h = refl
none_first (suc a) b h = rw eqb-suc-zero at h

pub neither_refused : (a b : ℕ) → first_refusal a b ≡ 0 → (a ≡ 0) × (b ≡ 0)
unfolding first_refusal
neither_refused a b h = (none_first a b h, rw (none_first a b h) at h)

pub passed : (ok : Bool) (number : ℕ) → 0 < number → refusal_unless ok number ≡ 0 → T ok
unfolding refusal_unless
passed true number p h = tt
passed false number p h = absurd (omega (arith, h))
