-- The exact scheme keeps the order of two profiles over two lists of calls whose accepted calls are paired, the second's fluxes no less. Assumes nothing.
use Rattle.std.specs.Prelude.{ℕ, zero, suc, ◌≡◌, Bool, cond, replicate}
use Rattle.std.proofs.Math.Path.{refl}
use Rattle.std.proofs.Common.{◌∙◌}
use Rattle.std.proofs.Math.Bool.{true, false}
use mathlib.Core.List.{List, [], ◌∷◌}
use Rattle.fraction.specs.Fraction.{Fraction}
use Rattle.diffusion.specs.Run.{exact_run, Each, Both, AllReady, Stronger}
use Rattle.diffusion.proofs.Ordered.{Ordered, ordered_run}
use Rattle.diffusion.specs.Calls.{Stepper, accepted, exact_after}

module _ {S Q : Type 0} (a : Stepper S Q) where
  -- the exact scheme, given accepted calls only
  unfoldable fed : List Q → List Fraction → List Fraction
  fed [] x = x
  fed (q ∷ qs) x = fed qs (exact_run a.grid (a.moves q) x)

  exact_fed : (qs : List Q) (s : S) (x : List Fraction) → exact_after a s qs x ≡ fed (accepted a s qs) x
  unfolding exact_after accepted fed
  exact_fed [] s x = refl
  exact_fed (q ∷ qs) s x = exact_fed qs (a.step s q) (cond (a.ok s q) (exact_run a.grid (a.moves q) x) x) ∙ go (a.ok s q) (accepted a (a.step s q) qs)
    where
      go : (o : Bool) (r : List Q) → fed r (cond o (exact_run a.grid (a.moves q) x) x) ≡ fed (cond o (q ∷ r) r) x
      go true r = refl
      go false r = refl

  ordered_fed : {qs qs' : List Q} {x y : List Fraction} → Both (λ q q'. Both Stronger (a.moves q) (a.moves q')) qs qs' → Each (λ q. AllReady a.grid (a.moves q)) qs
      → Ordered a.grid x y → Ordered a.grid (fed qs x) (fed qs' y)
  unfolding fed
  ordered_fed Both.none rs o = o
  ordered_fed (Both.more k ks) (Each.more r rs) o = ordered_fed ks rs (ordered_run a.grid k r o)

  -- LISTS OF CALLS from two states
  pub ordered_calls : (s s' : S) (qs qs' : List Q) {x y : List Fraction} → Both (λ q q'. Both Stronger (a.moves q) (a.moves q')) (accepted a s qs) (accepted a s' qs')
      → Each (λ q. AllReady a.grid (a.moves q)) (accepted a s qs) → Ordered a.grid x y → Ordered a.grid (exact_after a s qs x) (exact_after a s' qs' y)
  ordered_calls s s' qs qs' {x} {y} k r o = rw (exact_fed qs s x, exact_fed qs' s' y) (ordered_fed k r o)

-- ---- pairs
pub both_with : {A : Type 0} {P : A → Type 0} {R W : A → A → Type 0} {xs ys : List A} → ((x y : A) → R x y → P x → P y → W x y) → Both R xs ys → Each P xs → Each P ys → Both W xs ys
both_with f Both.none Each.none Each.none = Both.none
both_with f (Both.more {x = x} {y = y} k ks) (Each.more p ps) (Each.more q qs) = Both.more (f x y k p q) (both_with f ks ps qs)

pub both_copied : {A : Type 0} (R : A → A → Type 0) (x y : A) (k : ℕ) → R x y → Both R (replicate k x) (replicate k y)
both_copied R x y zero r = Both.none
both_copied R x y (suc k) r = Both.more r (both_copied R x y k r)
