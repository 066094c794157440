-- A sub-step made in place: while the first i places are new, the others and the one kept aside are the old ones. Assumes nothing.
use Prim.Native.Nat.{ℕ, ◌+◌, ◌-◌, ◌<◌, ◌≤◌}
use mathlib.Core.Path.{◌≡◌, refl, ap, sym, ◌∙◌}
use mathlib.Core.List.{List, [], ◌∷◌}
use native.Mathlib.Omega.{arith}
use native.Mathlib.Numerals.{add-one}
use lib.ListN.{get_or, set}
use lib.Ieee.{Float, nan}
use Rattle.binary64.specs.Operators.{◌⊕◌}
use Rattle.iterate.specs.Iterate.{first_by, first_above, first_suc}
use Rattle.profile.specs.declared.sub_step.SubStepCoefficients.{SubStepCoefficients}
use Rattle.profile.specs.SubSteps.{places_of, moved_by, shell_by, node_by, node_shell, surface_last, sub_step_by}

-- the centre put back
pub restored : (l : List Float) (x : Float) → set (set l 0 x) 0 (get_or l 0 nan) ≡ l
restored [] x = refl
restored (a ∷ l) x = refl

module _ (v : SubStepCoefficients) (w old : List Float) where
  abbrev pub New : List Float → ℕ → Type 0
  New c i = c ≡ first_by i (node_by v w (places_of old)) old

  still : (c : List Float) (i k : ℕ) → New c i → i ≤ k → get_or c k nan ≡ get_or old k nan
  still c i k e h = ap (λ (l : List Float). get_or l k nan) e ∙ first_above (node_by v w (places_of old)) old i k nan h

  module _ (c : List Float) (i : ℕ) (e : New c i) (before : Float) (b : before ≡ get_or old (i - 1) nan) where
    pub shell_turn : 1 ≤ i → i < v.n - 1 → New (set c i (moved_by v (get_or c i nan) (shell_by v (get_or w i nan) before (get_or c i nan) (get_or c (i + 1) nan)))) (i + 1)
    shell_turn l h =
        rw (still c i i e (omega arith), still c i (i + 1) e (omega arith), b, e)
        (ap (λ (x : Float). set (first_by i (node_by v w (places_of old)) old) i x) (sym (node_shell v w (places_of old) i l h))
        ∙ sym (first_suc (node_by v w (places_of old)) old (i + 1) i (add-one i)))

    pub kept : get_or c i nan ≡ get_or old (i + 1 - 1) nan
    kept = still c i i e (omega arith) ∙ ap (λ (k : ℕ). get_or old k nan) (omega arith)

    pub surface_turn : 2 ≤ v.n → i ≡ v.n - 1 → set c i (moved_by v (get_or c i nan) (shell_by v (get_or w i nan) before (get_or c i nan) (before ⊕ v.flux_term))) ≡ sub_step_by v w old
    surface_turn h q =
        rw (still c i i e (omega arith), b, q) (surface_last v w old c h (e ∙ ap (λ (k : ℕ). first_by k (node_by v w (places_of old)) old) q))
