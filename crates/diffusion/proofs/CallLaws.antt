-- Lists of calls: whatever was refused, every node is within K·M / 2 ^ 49 of the exact scheme's; and of two lists the one with the greater fluxes ranks above, but for 2·K·M / 2 ^ 49.
-- A list of calls comes to the list of the sub-steps of its accepted calls.
use Rattle.std.specs.Prelude.{ℕ, ◌+◌, ◌<◌, ◌≤◌, ◌≡◌, Bool, T, length, get_or, Float}
use Rattle.std.proofs.Math.Path.{refl, sym, ap}
use Rattle.std.proofs.Common.{◌∙◌, zero-add}
use Rattle.std.proofs.Math.Bool.{true, false, cond}
use mathlib.Core.List.{List, [], ◌∷◌, ◌++◌, map}
use Rattle.std.proofs.Math.ListN.{length-append}
use Rattle.std.specs.Float.{nan}
use Rattle.fraction.specs.Fraction.{Fraction, nat, pow2, ◌+F◌, ◌-F◌, ◌*F◌, ◌/F◌, ◌≤F◌, ◌within◌}
use Rattle.binary64.specs.Value.{val}
use Rattle.diffusion.specs.SubStep.{sub_step}
use Rattle.diffusion.specs.Exact.{numbers, exact_step}
use Rattle.diffusion.specs.Premises.{ParametersInRange, ProfileInRange}
use Rattle.diffusion.specs.Run.{Grid, Move, sub_step_params, run, exact_run, Each, Both, AllReady, Stronger}
use Rattle.diffusion.proofs.RunLaws.{run_whole, run_near, run_unused}
use Rattle.diffusion.proofs.Ranking.{ranking, both_length}
use Rattle.diffusion.specs.Calls.{Stepper, after, accepted, total, exact_after, ConditionsHold, Lawful}

-- ---- lists
module _ {A : Type 0} where
  each_append : {P : A → Type 0} {xs ys : List A} → Each P xs → Each P ys → Each P (xs ++ ys)
  each_append Each.none qs = qs
  each_append (Each.more p ps) qs = Each.more p (each_append ps qs)

  pub each_with : {P Q R : A → Type 0} {xs : List A} → ((x : A) → P x → Q x → R x) → Each P xs → Each Q xs → Each R xs
  each_with f Each.none Each.none = Each.none
  each_with f (Each.more {x = x} p ps) (Each.more q qs) = Each.more (f x p q) (each_with f ps qs)

  both_append : {R : A → A → Type 0} {xs ys zs ws : List A} → Both R xs ys → Both R zs ws → Both R (xs ++ zs) (ys ++ ws)
  both_append Both.none ss = ss
  both_append (Both.more r rs) ss = Both.more r (both_append rs ss)

  pub both_flip : {R : A → A → Type 0} {xs ys : List A} → Both R xs ys → Both (λ y x. R x y) ys xs
  both_flip Both.none = Both.none
  both_flip (Both.more r rs) = Both.more r (both_flip rs)

module _ (b : Grid) where
  run_append : (ms ns : List Move) (c : List Float) → run b (ms ++ ns) c ≡ run b ns (run b ms c)
  unfolding run
  run_append [] ns c = refl
  run_append (m ∷ ms) ns c = run_append ms ns (sub_step (sub_step_params b m) c)

  exact_append : (ms ns : List Move) (x : List Fraction) → exact_run b (ms ++ ns) x ≡ exact_run b ns (exact_run b ms x)
  unfolding exact_run
  exact_append [] ns x = refl
  exact_append (m ∷ ms) ns x = exact_append ms ns (exact_step (numbers (sub_step_params b m)) x)

-- ---- the sub-steps of a list of calls
module _ {S Q : Type 0} (a : Stepper S Q) where
  unfoldable made : List Q → List Move
  made [] = []
  made (q ∷ qs) = a.moves q ++ made qs

  -- what a call does, by whether it is accepted
  run_call : (o : Bool) (q : Q) (qs : List Q) (c : List Float) → run a.grid (made qs) (cond o (run a.grid (a.moves q) c) c) ≡ run a.grid (made (cond o (q ∷ qs) qs)) c
  unfolding made
  run_call true q qs c = sym (run_append a.grid (a.moves q) (made qs) c)
  run_call false q qs c = refl

  exact_call : (o : Bool) (q : Q) (qs : List Q) (x : List Fraction) → exact_run a.grid (made qs) (cond o (exact_run a.grid (a.moves q) x) x) ≡ exact_run a.grid (made (cond o (q ∷ qs) qs)) x
  unfolding made
  exact_call true q qs x = sym (exact_append a.grid (a.moves q) (made qs) x)
  exact_call false q qs x = refl

  total_call : (o : Bool) (q : Q) (qs : List Q) → length (made (cond o (q ∷ qs) qs)) ≡ cond o (length (a.moves q)) 0 + length (made qs)
  unfolding made
  total_call true q qs = length-append (a.moves q) (made qs)
  total_call false q qs = sym (zero-add (length (made qs)))

  exact_is : (qs : List Q) (s : S) (x : List Fraction) → exact_after a s qs x ≡ exact_run a.grid (made (accepted a s qs)) x
  unfolding exact_after accepted made exact_run
  exact_is [] s x = refl
  exact_is (q ∷ qs) s x =
      let t = a.step s q in
      exact_is qs t (cond (a.ok s q) (exact_run a.grid (a.moves q) x) x) ∙ exact_call (a.ok s q) q (accepted a t qs) x

  total_is : (qs : List Q) (s : S) → length (made (accepted a s qs)) ≡ total a s qs
  unfolding total accepted made
  total_is [] s = refl
  total_is (q ∷ qs) s =
      let t = a.step s q in
      total_call (a.ok s q) q (accepted a t qs) ∙ ap (λ (k : ℕ). cond (a.ok s q) (length (a.moves q)) 0 + k) (total_is qs t)

  made_ready : {qs : List Q} → Each (λ q. AllReady a.grid (a.moves q)) qs → AllReady a.grid (made qs)
  unfolding made
  made_ready Each.none = Each.none
  made_ready (Each.more r rs) = each_append r (made_ready rs)

  made_both : {R : Q → Q → Type 0} → ((q q' : Q) → R q q' → AllReady a.grid (a.moves q) → AllReady a.grid (a.moves q') → Both Stronger (a.moves q) (a.moves q'))
      → {qs qs' : List Q} → Both R qs qs' → Each (λ q. AllReady a.grid (a.moves q)) qs → Each (λ q. AllReady a.grid (a.moves q)) qs' → Both Stronger (made qs) (made qs')
  unfolding made
  made_both f Both.none Each.none Each.none = Both.none
  made_both f (Both.more {x = q} {y = q'} k ks) (Each.more r rs) (Each.more r' rs') = both_append (f q q' k r r') (made_both f ks rs rs')

  module _ {Inv : S → Type 0} (laws : Lawful a Inv) where
    after_is : (qs : List Q) (s : S) → Inv s → a.profile (after a s qs) ≡ run a.grid (made (accepted a s qs)) (a.profile s)
    unfolding after accepted made run
    after_is [] s h = refl
    after_is (q ∷ qs) s h =
        let t = a.step s q in
        after_is qs t (laws.stays s q h) ∙ ap (run a.grid (made (accepted a t qs))) (laws.law s q h) ∙ run_call (a.ok s q) q (accepted a t qs) (a.profile s)

    -- what acceptance gives of each accepted call
    pub of_accepted : (P : Q → Type 0) → ((s : S) (q : Q) → Inv s → T (a.ok s q) → P q) → (qs : List Q) (s : S) → Inv s → Each P (accepted a s qs)
    unfolding accepted
    of_accepted P f [] s h = Each.none
    of_accepted P f (q ∷ qs) s h = by_test (a.ok s q) (λ t. f s q h t) (of_accepted P f qs (a.step s q) (laws.stays s q h))
      where
        by_test : (o : Bool) → (T o → P q) → {xs : List Q} → Each P xs → Each P (cond o (q ∷ xs) xs)
        by_test true g rs = Each.more (g tt) rs
        by_test false g rs = rs

    ready : (s : S) (qs : List Q) → Inv s → ConditionsHold a s qs → Each (λ q. AllReady a.grid (a.moves q)) (accepted a s qs)
    ready s qs h ks = each_with (λ q ms ns. each_with (λ m x y. record { ranges = x; conditions = y }) ms ns) (of_accepted (λ q. Each (λ m. ParametersInRange (sub_step_params a.grid m)) (a.moves q)) laws.ranges qs s h) ks

    module _ (s : S) (qs : List Q) (h : Inv s) (w : ProfileInRange a.grid.n (val a.grid.c_max) (a.profile s)) (ks : ConditionsHold a s qs) where
      -- LISTS OF CALLS: with K the sub-steps of the accepted ones, every node is within K·M / 2 ^ 49 of the exact scheme from the same start
      pub calls_near : (i : ℕ) → i < a.grid.n
          → val (get_or (a.profile (after a s qs)) i nan) -F get_or (exact_after a s qs (map val (a.profile s))) i (nat 0) within nat (total a s qs) *F val a.grid.c_max /F pow2 49
      calls_near i l = rw (after_is qs s h, exact_is qs s (map val (a.profile s)), ← total_is qs s) (run_near a.grid (made (accepted a s qs)) (a.profile s) (made_ready (ready s qs h ks)) w i l)

      -- its nodes are finite and from 0 to M
      pub calls_in_range : ProfileInRange a.grid.n (val a.grid.c_max) (a.profile (after a s qs))
      calls_in_range = rw (after_is qs s h) (run_whole a.grid (a.profile s) (made_ready (ready s qs h ks)) w)

    -- unused places stay
    pub calls_unused : (s : S) (qs : List Q) → Inv s → (i : ℕ) (d : Float) → a.grid.n ≤ i → get_or (a.profile (after a s qs)) i d ≡ get_or (a.profile s) i d
    calls_unused s qs h i d l = rw (after_is qs s h) (run_unused a.grid (made (accepted a s qs)) (a.profile s) i d l)

    -- two lists of calls, from two states; R pairs their accepted calls, and gives sub-steps with the greater fluxes
    module _ {R : Q → Q → Type 0} (alike : (q q' : Q) → R q q' → AllReady a.grid (a.moves q) → AllReady a.grid (a.moves q') → Both Stronger (a.moves q) (a.moves q'))
        (s s' : S) (qs qs' : List Q) (h : Inv s) (h' : Inv s') (ks : ConditionsHold a s qs) (ks' : ConditionsHold a s' qs') (pairs : Both R (accepted a s qs) (accepted a s' qs')) where
      stronger : Both Stronger (made (accepted a s qs)) (made (accepted a s' qs'))
      stronger = made_both alike pairs (ready s qs h ks) (ready s' qs' h' ks')

      pub calls_total : total a s qs ≡ total a s' qs'
      calls_total = sym (total_is qs s) ∙ both_length stronger ∙ total_is qs' s'

      -- RANKING: from equal profiles the second list's nodes are nowhere more than 2·K·M / 2 ^ 49 below the first's
      pub calls_ranking : a.profile s ≡ a.profile s' → ProfileInRange a.grid.n (val a.grid.c_max) (a.profile s) → (i : ℕ) → i < a.grid.n
          → val (get_or (a.profile (after a s qs)) i nan) ≤F val (get_or (a.profile (after a s' qs')) i nan) +F nat 2 *F nat (total a s qs) *F val a.grid.c_max /F pow2 49
      calls_ranking e w i l =
          let start : a.profile (after a s' qs') ≡ run a.grid (made (accepted a s' qs')) (a.profile s) = after_is qs' s' h' ∙ ap (run a.grid (made (accepted a s' qs'))) (sym e) in
          rw (after_is qs s h, start, ← total_is qs s) (ranking a.grid (a.profile s) stronger (made_ready (ready s qs h ks)) (made_ready (ready s' qs' h' ks')) w i l)
