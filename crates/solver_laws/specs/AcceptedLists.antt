-- Lists of the solver's calls that are all accepted, and what one call more at the end of a list makes. Assumes nothing.
use Rattle.std.specs.Prelude.{◌≡◌, refl, List, [], ◌∷◌, ◌++◌}
use Rattle.std.proofs.Common.{sym, ap, ◌∙◌, eq-eqb}
use Rattle.diffusion.specs.Run.{Each}
use Rattle.solver.specs.declared.SpmSolver.{SpmSolver}
use Rattle.solver_laws.specs.Demand.{Call, answer, cell_after, taken}

-- every call of a list is accepted
pub data AllAccepted : SpmSolver → List Call → Type 0 where
  none : {s : SpmSolver} → AllAccepted s []
  more : {s : SpmSolver} {q : Call} {qs : List Call} → (answer s q).refusal ≡ 0 → AllAccepted (answer s q).solver qs → AllAccepted s (q ∷ qs)

pub all_taken : {s : SpmSolver} {qs : List Call} → AllAccepted s qs → taken s qs ≡ qs
unfolding taken
all_taken AllAccepted.none = refl
all_taken (AllAccepted.more {s = s} {q = q} h hs) = rw (eq-eqb (answer s q).refusal 0 h) (ap (λ (l : List Call). q ∷ l) (all_taken hs))

-- ---- two lists, one after the other
pub each_append : {A : Type 0} {P : A → Type 0} {xs ys : List A} → Each P xs → Each P ys → Each P (xs ++ ys)
each_append Each.none qs = qs
each_append (Each.more p ps) qs = Each.more p (each_append ps qs)

pub after_append : (xs ys : List Call) (s : SpmSolver) → cell_after s (xs ++ ys) ≡ cell_after (cell_after s xs) ys
unfolding cell_after
after_append [] ys s = refl
after_append (x ∷ xs) ys s = after_append xs ys (answer s x).solver

accepted_append : (xs ys : List Call) (s : SpmSolver) → AllAccepted s xs → AllAccepted (cell_after s xs) ys → AllAccepted s (xs ++ ys)
unfolding cell_after
accepted_append [] ys s a b = b
accepted_append (x ∷ xs) ys s (AllAccepted.more h a) b = AllAccepted.more h (accepted_append xs ys (answer s x).solver a b)

-- ---- the cell r is what these calls leave of s, and all of them are accepted
pub record Listed (s r : SpmSolver) (qs : List Call) : Type 0 where
  pub cell : r ≡ cell_after s qs
  pub accepted : AllAccepted s qs

pub listed_none : (s : SpmSolver) → Listed s s []
unfolding cell_after
listed_none s = record { cell = refl; accepted = AllAccepted.none }

-- one call more, at the end
pub listed_more : (s r : SpmSolver) (qs : List Call) (q : Call) → Listed s r qs → (answer r q).refusal ≡ 0 → Listed s (answer r q).solver (qs ++ q ∷ [])
unfolding cell_after
listed_more s r qs q l h = record {
  cell = ap (λ (x : SpmSolver). (answer x q).solver) l.cell ∙ sym (after_append qs (q ∷ []) s);
  accepted = accepted_append qs (q ∷ []) s l.accepted (AllAccepted.more (ap (λ (x : SpmSolver). (answer x q).refusal) (sym l.cell) ∙ h) AllAccepted.none);
}
