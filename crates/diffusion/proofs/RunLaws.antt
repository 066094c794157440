-- Lists of sub-steps: after K of them every node is finite, from 0 to M, and within K·M / 2 ^ 49 of the exact scheme's.
use Rattle.std.specs.Prelude.{ℕ, suc, ◌+◌, ◌<◌, ◌≤◌, ◌≡◌, length, get_or, Float}
use Rattle.std.proofs.Math.Path.{refl, subst}
use Rattle.std.proofs.Common.{◌∙◌, add-zero, arith}
use mathlib.Core.List.{List, [], ◌∷◌, map}
use Rattle.std.proofs.Math.Nat.{zero-add}
use Rattle.std.proofs.lemmas.List.{length-map}
use Rattle.std.specs.Float.{nan}
use Rattle.fraction.specs.Fraction.{Fraction, whole, nat, pow2, turned, inv, ◌+F◌, neg_f, ◌-F◌, ◌*F◌, ◌/F◌, ◌≤F◌, ◌within◌}
use Rattle.fraction.proofs.Field.{le_of_lt}
use Rattle.fraction.proofs.Certificate.{quote}
use Rattle.fraction.proofs.Certificate.{le_by, within_by, up, num, eqn, ◌⊞◌, ◌⊠◌, ◌·◌}
use Rattle.fraction.proofs.Order.{nat_suc, lit≤F}
use Rattle.fraction.proofs.Size.{size_pos}
use Rattle.fraction.proofs.Within.{within_weaken, apart_trans}
use Rattle.binary64.specs.Error.{u}
use Rattle.binary64.specs.Value.{val}
use Rattle.diffusion.specs.SubStep.{sub_step}
use Rattle.diffusion.specs.Exact.{Numbers, numbers, exact_step}
use Rattle.diffusion.proofs.ExactLaws.{contraction}
use Rattle.diffusion.specs.Premises.{Ready, Stable, ProfileInRange, ready_stable}
use Rattle.diffusion.proofs.Profile.{step_length, step_unused, exact_length, exact_place_lem, values_at}
use Rattle.diffusion.proofs.OneStep.{sub_step_in_range, sub_step_near}
use Rattle.diffusion.specs.Run.{Grid, Move, sub_step_params, run, exact_run, Each, AllReady}
use Rattle.diffusion.specs.RunLaws.{bound, share}

share_holds : nat 14 *F u ≤F share
unfolding u inv turned whole ◌*F◌
share_holds = lit≤F tt

one_more : {M : Fraction} (K : ℕ) → nat 0 ≤F M → M *F (nat 14 *F u) +F bound K M ≤F bound (suc K) M
one_more {M} K m = le_by (M ∷ u ∷ share ∷ nat K ∷ nat (suc K) ∷ []) 0 (m ⊠ up share_holds ⊞ eqn (neg_f (M *F share) · nat_suc K)) (search quote depth 24) tt

-- ---- every node within K·M / 2 ^ 49
pub record Tracks (b : Grid) (c : List Float) (x : List Fraction) (K : ℕ) : Type 0 where
  pub long : b.n ≤ length x
  pub near : (i : ℕ) → i < b.n → val (get_or c i nan) -F get_or x i (nat 0) within bound K (val b.c_max)

-- two exact profiles that are nowhere further apart than B
exact_apart : {e : Numbers} → Stable e → (x y : List Fraction) → e.n ≤ length x → e.n ≤ length y → {B : Fraction} → ((i : ℕ) → i < e.n → get_or x i (nat 0) -F get_or y i (nat 0) within B)
    → (i : ℕ) → i < e.n → get_or (exact_step e x) i (nat 0) -F get_or (exact_step e y) i (nat 0) within B
exact_apart {e} s x y p q h i l = rw (exact_place_lem e x i l p, exact_place_lem e y i l q) (contraction e s (λ k. get_or x k (nat 0)) (λ k. get_or y k (nat 0)) h i l)

module _ (b : Grid) where
  abbrev M : Fraction
  M = val b.c_max

  abbrev AllInRange : List Float → Type 0
  AllInRange c = ProfileInRange b.n M c

  pub tracks_start : (c : List Float) → AllInRange c → Tracks b c (map val c) 0
  tracks_start c w = record {
    long = rw (length-map c val) w.long;
    near = λ i l. rw (values_at c i) (within_by (val (get_or c i nan) ∷ M ∷ share ∷ []) 0 (num 0) (num 0) (search quote depth 24) tt tt);
  }

  pub tracks_step : {m : Move} {c : List Float} {x : List Fraction} {K : ℕ} → Ready (sub_step_params b m) → AllInRange c → Tracks b c x K → Tracks b (sub_step (sub_step_params b m) c) (exact_step (numbers (sub_step_params b m)) x) (suc K)
  tracks_step {m} {c} {x} {K} r w h =
      let v = sub_step_params b m in
      let e = numbers (sub_step_params b m) in
      let p : b.n ≤ length (map val c) = rw (length-map c val) w.long in
      let q : b.n ≤ length x = h.long in
      record {
        long = rw (exact_length e x) q;
        near = λ i l. within_weaken
            (apart_trans (val (get_or (sub_step v c) i nan)) (get_or (exact_step e (map val c)) i (nat 0)) (get_or (exact_step e x) i (nat 0))
            (sub_step_near v r c w i l)
            (exact_apart (ready_stable r) (map val c) x p q (λ k o. rw (values_at c k) (h.near k o)) i l))
            (one_more K (le_of_lt (size_pos r.ranges.c_max)));
      }

  pub run_whole : {ms : List Move} (c : List Float) → AllReady b ms → AllInRange c → AllInRange (run b ms c)
  unfolding run
  run_whole c Each.none w = w
  run_whole c (Each.more {x = m} r rs) w = run_whole (sub_step (sub_step_params b m) c) rs (sub_step_in_range (sub_step_params b m) r c w)

  pub run_tracks : {ms : List Move} (c : List Float) (x : List Fraction) (K : ℕ) → AllReady b ms → AllInRange c → Tracks b c x K → Tracks b (run b ms c) (exact_run b ms x) (length ms + K)
  unfolding run exact_run
  run_tracks c x K Each.none w h = rw zero-add h
  run_tracks c x K (Each.more {x = m} {xs = ms} r rs) w h =
      subst (λ (k : ℕ). Tracks b (run b ms (sub_step (sub_step_params b m) c)) (exact_run b ms (exact_step (numbers (sub_step_params b m)) x)) k) (omega arith)
      (run_tracks (sub_step (sub_step_params b m) c) (exact_step (numbers (sub_step_params b m)) x) (suc K) rs (sub_step_in_range (sub_step_params b m) r c w) (tracks_step r w h))

  -- LISTS OF SUB-STEPS: with K their number, every node is within K·M / 2 ^ 49 of the exact scheme from the same start
  pub run_near : (ms : List Move) (c : List Float) → AllReady b ms → ProfileInRange b.n (val b.c_max) c → (i : ℕ) → i < b.n
      → val (get_or (run b ms c) i nan) -F get_or (exact_run b ms (map val c)) i (nat 0) within nat (length ms) *F val b.c_max /F pow2 49
  run_near ms c rs w i l = (subst (λ (k : ℕ). Tracks b (run b ms c) (exact_run b ms (map val c)) k) (add-zero (length ms)) (run_tracks c (map val c) 0 rs w (tracks_start c w))).near i l

  -- the length of the profile and its unused places stay, whatever the sub-steps are
  pub run_length : (ms : List Move) (c : List Float) → length (run b ms c) ≡ length c
  unfolding run
  run_length [] c = refl
  run_length (m ∷ ms) c = run_length ms (sub_step (sub_step_params b m) c) ∙ step_length (sub_step_params b m) c

  pub run_unused : (ms : List Move) (c : List Float) (i : ℕ) (d : Float) → b.n ≤ i → get_or (run b ms c) i d ≡ get_or c i d
  unfolding run
  run_unused [] c i d l = refl
  run_unused (m ∷ ms) c i d l = run_unused ms (sub_step (sub_step_params b m) c) i d l ∙ step_unused (sub_step_params b m) c i d l
