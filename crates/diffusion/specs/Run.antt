-- Lists of sub-steps at one particle: one grid, and each sub-step its own diffusivity, flux and length. Definitions only.
use Rattle.std.specs.Prelude.{ℕ, ◌≡◌, List, [], ◌∷◌, Float}
use Rattle.fraction.specs.Fraction.{Fraction, ◌≤F◌}
use Rattle.binary64.specs.Value.{val}
use Rattle.diffusion.specs.SubStep.{SubStepParams, sub_step}
use Rattle.diffusion.specs.Exact.{numbers, exact_step}
use Rattle.diffusion.specs.Premises.{Ready}

-- what stays: how many nodes, the spacing, the most that a node holds
pub record Grid : Type 0 where
  pub n : ℕ
  pub dr : Float
  pub c_max : Float

-- what each sub-step brings: diffusivity, flux, length
pub record Move : Type 0 where
  pub d_s : Float
  pub j_n : Float
  pub dt : Float

abbrev pub sub_step_params : Grid → Move → SubStepParams
sub_step_params b m = record { n = b.n; dr = b.dr; d_s = m.d_s; c_max = b.c_max; j_n = m.j_n; dt = m.dt }

-- the profile after a list of sub-steps, in binary64 and exact
unfoldable pub run : Grid → List Move → List Float → List Float
run b [] c = c
run b (m ∷ ms) c = run b ms (sub_step (sub_step_params b m) c)

unfoldable pub exact_run : Grid → List Move → List Fraction → List Fraction
exact_run b [] x = x
exact_run b (m ∷ ms) x = exact_run b ms (exact_step (numbers (sub_step_params b m)) x)

-- P holds of each of a list; R holds of two lists, equally long, place by place
pub data Each {A : Type 0} (P : A → Type 0) : List A → Type 0 where
  none : Each P []
  more : {x : A} {xs : List A} → P x → Each P xs → Each P (x ∷ xs)

pub data Both {A : Type 0} (R : A → A → Type 0) : List A → List A → Type 0 where
  none : Both R [] []
  more : {x y : A} {xs ys : List A} → R x y → Both R xs ys → Both R (x ∷ xs) (y ∷ ys)

abbrev pub AllReady : Grid → List Move → Type 0
AllReady b ms = Each (λ m. Ready (sub_step_params b m)) ms

-- alike in diffusivity and length, the second's flux no less
pub record Stronger (m m' : Move) : Type 0 where
  pub same_d : m'.d_s ≡ m.d_s
  pub same_t : m'.dt ≡ m.dt
  pub flux : val m.j_n ≤F val m'.j_n
