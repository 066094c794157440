-- The exact scheme keeps the order of two profiles over two lists of sub-steps that are alike but for the fluxes, the second's no less. Assumes nothing.
use Rattle.std.specs.Prelude.{ℕ, ◌<◌, ◌≤◌, ◌≡◌, List, length, get_or}
use Rattle.fraction.specs.Fraction.{Fraction, nat, ◌≤F◌}
use Rattle.binary64.specs.Value.{val}
use Rattle.diffusion.specs.Exact.{numbers, exact_step}
use Rattle.diffusion.proofs.ExactLaws.{monotone}
use Rattle.diffusion.proofs.ExactLaws.{with_flux}
use Rattle.diffusion.specs.Premises.{Ready, ready_stable}
use Rattle.diffusion.proofs.Profile.{exact_length, exact_place_lem}
use Rattle.diffusion.specs.Run.{Grid, Move, sub_step_params, exact_run, Each, Both, AllReady, Stronger}

pub record Ordered (b : Grid) (x y : List Fraction) : Type 0 where
  pub long : b.n ≤ length x
  pub long' : b.n ≤ length y
  pub below : (i : ℕ) → i < b.n → get_or x i (nat 0) ≤F get_or y i (nat 0)

module _ (b : Grid) where
  ordered_step : {m m' : Move} {x y : List Fraction} → Stronger m m' → Ready (sub_step_params b m) → Ordered b x y → Ordered b (exact_step (numbers (sub_step_params b m)) x) (exact_step (numbers (sub_step_params b m')) y)
  ordered_step {m} {m'} {x} {y} k r o =
      let e = numbers (sub_step_params b m) in
      let f = with_flux (numbers (sub_step_params b m)) (val m'.j_n) in
      let same : numbers (sub_step_params b m') ≡ f = rw (k.same_d, k.same_t) in
      rw same (record {
        long = rw (exact_length e x) o.long;
        long' = rw (exact_length f y) o.long';
        below = λ i l. rw (exact_place_lem e x i l o.long, exact_place_lem f y i l o.long')
            (monotone e (ready_stable r) (val m'.j_n) k.flux (λ k. get_or x k (nat 0)) (λ k. get_or y k (nat 0)) o.below i l);
      })

  pub ordered_run : {ms ms' : List Move} {x y : List Fraction} → Both Stronger ms ms' → AllReady b ms → Ordered b x y → Ordered b (exact_run b ms x) (exact_run b ms' y)
  unfolding exact_run
  ordered_run Both.none rs o = o
  ordered_run (Both.more k ks) (Each.more r rs) o = ordered_run ks rs (ordered_step k r o)
