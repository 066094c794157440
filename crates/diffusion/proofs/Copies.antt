-- One sub-step k times over, as a list of k.
use Rattle.std.specs.Prelude.{ℕ, zero, suc, ◌≡◌, refl, List, replicate, Float}
use Rattle.std.proofs.Common.{◌∙◌, ap}
use Rattle.iterate.specs.Iterate.{times}
use Rattle.diffusion.specs.SubStep.{sub_step}
use Rattle.diffusion.specs.Run.{Grid, Move, sub_step_params, run, Each, Both}

times_inside : {A : Type 0} (f : A → A) (k : ℕ) (x : A) → times k f (f x) ≡ f (times k f x)
unfolding times
times_inside f zero x = refl
times_inside f (suc k) x = ap f (times_inside f k x)

pub run_times : (b : Grid) (m : Move) (k : ℕ) (c : List Float) → run b (replicate k m) c ≡ times k (sub_step (sub_step_params b m)) c
unfolding run times
run_times b m zero c = refl
run_times b m (suc k) c = run_times b m k (sub_step (sub_step_params b m) c) ∙ times_inside (sub_step (sub_step_params b m)) k c

pub each_copies : {A : Type 0} (P : A → Type 0) (x : A) (k : ℕ) → P x → Each P (replicate k x)
each_copies P x zero p = Each.none
each_copies P x (suc k) p = Each.more p (each_copies P x k p)

pub both_copies : {A : Type 0} {P : A → Type 0} (R : A → A → Type 0) (x y : A) (k : ℕ) → (P x → P y → R x y) → Each P (replicate k x) → Each P (replicate k y) → Both R (replicate k x) (replicate k y)
both_copies R x y zero f ps qs = Both.none
both_copies R x y (suc k) f (Each.more p ps) (Each.more q qs) = Both.more (f p q) (both_copies R x y k f ps qs)
