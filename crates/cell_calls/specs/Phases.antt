-- The eight phases of a cycle from their image: each is two words, its kind (1 charge, 2 rest, 3 discharge) and its number (A, s, A). Definitions only.
use Rattle.std.specs.Prelude.{ℕ, ◌+◌, ◌*◌, Bool, cond, ◌&&◌, ◌||◌, List, [], ◌∷◌, eqb, leb, Float}
use Rattle.iterate.specs.Iterate.{all_below}
use Rattle.codec.specs.Words.{word_at, float_at}
use Rattle.cycle_run.specs.declared.phases.Phase.{Phase}
use Rattle.cycle_run.specs.declared.phases.Phase.TheVariants.{Charge, Rest, Discharge}
use Rattle.image_layout.specs.Layout.{phase_kind, phase_number, phase_words}

-- ---- one phase
-- whether a kind is listed
abbrev pub kind_listed : ℕ → Bool
kind_listed kind = leb 1 kind && leb kind 3

-- a kind that is not listed refuses its cycle, or is not looked at; it stands as a rest
unfoldable pub phase_of : ℕ → Float → Phase
phase_of kind x = cond (eqb kind 1) (Charge x) (cond (eqb kind 3) (Discharge x) (Rest x))

-- from word `at` on
unfoldable pub phase_at : List ℕ → ℕ → Phase
phase_at s at = phase_of (word_at s (at + phase_kind)) (float_at s (at + phase_number))

-- ---- eight phases
-- whether the first `count` have kinds that are listed; places from `count` on are not looked at
unfoldable pub kinds_fit : List ℕ → ℕ → Bool
kinds_fit s count = all_below 8 (λ k. leb count k || kind_listed (word_at s (k * phase_words + phase_kind)))

unfoldable pub phases_at : List ℕ → List Phase
phases_at s =
    phase_at s 0 ∷ phase_at s 2 ∷ phase_at s 4 ∷ phase_at s 6 ∷ phase_at s 8 ∷ phase_at s 10 ∷ phase_at s 12 ∷ phase_at s 14 ∷ []
