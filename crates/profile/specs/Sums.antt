-- The two sums of the average, place by place together. Definitions, then that they are the two sums. Assumes nothing.
use Rattle.std.specs.Prelude.{ℕ, zero, suc, ◌≡◌, refl, List, Float}
use Rattle.std.proofs.Common.{ap}
use Rattle.binary64.specs.Operators.{◌⊕◌, ◌⊗◌}
use Rattle.binary64.specs.Literals.{«0·0»}
use Rattle.arrays.specs.Places.{at}
use Rattle.profile.specs.Weights.{weight, share_by, shares, content}
use Rattle.profile.specs.declared.Sums.{Sums}

abbrev pub both_sums : Float → Float → Sums
both_sums s c = record { shares = s; content = c }

-- with a place of the weight w
abbrev pub added_by : Sums → Float → Float → ℕ → Float → Sums
added_by s w dr i c = both_sums (s.shares ⊕ share_by w dr i) (s.content ⊕ share_by w dr i ⊗ c)

abbrev pub added_to : Sums → ℕ → Float → ℕ → Float → Sums
added_to s n dr i c = added_by s (weight n i) dr i c

unfoldable pub sums_after : List Float → ℕ → Float → ℕ → Sums
sums_after c n dr zero = both_sums «0·0» «0·0»
sums_after c n dr (suc k) = added_to (sums_after c n dr k) n dr k (at c k)

pub sums_are : (c : List Float) (n : ℕ) (dr : Float) (k : ℕ) → sums_after c n dr k ≡ both_sums (shares n dr k) (content n dr (at c) k)
unfolding sums_after shares content
sums_are c n dr zero = refl
sums_are c n dr (suc k) = ap (λ (s : Sums). added_to s n dr k (at c k)) (sums_are c n dr k)
