-- What one call does to a particle, to the exact scheme beside it and to K, from a particle in the middle of the list; and where no call is accepted. Assumes nothing.
use Rattle.std.specs.Prelude.{ℕ, ◌≡◌, Bool}
use Rattle.std.proofs.Math.Path.{refl, sym, ap}
use Rattle.std.proofs.Common.{◌∙◌}
use Rattle.std.proofs.Math.Bool.{true, false}
use mathlib.Core.List.{List, [], ◌∷◌, map}
use borrow.Author.Tests.{eqb-true, eqb-false, eq-eqb, ne_eqb}
use native.Mathlib.Omega.{arith}
use Rattle.std.proofs.Math.Dec.{eqb}
use Rattle.std.proofs.Math.ListN.{length}
use Rattle.fraction.specs.Fraction.{Fraction}
use Rattle.binary64.specs.Value.{val}
use Rattle.diffusion.specs.Exact.{exact_step}
use Rattle.diffusion.proofs.Profile.{values_at}
use Rattle.diffusion.specs.Run.{exact_run}
use Rattle.diffusion.specs.Calls.{after, accepted, exact_after}
use Rattle.particle.specs.declared.ParticleDiffusion.{ParticleDiffusion}
use Rattle.particle_laws.specs.Closure.{step_refused}
use Rattle.particle_laws.specs.Demand.{Call, answer, steps, numbers_of_of, place, exact_place, K}

-- ---- how the fold goes on at a call, from a particle s in the middle of the list
module _ (p s : ParticleDiffusion) (q : Call) (qs : List Call) (x : List Fraction) where
  -- an accepted one: a new particle, one exact sub-step, K one more
  pub record Accepted : Type 0 where
    pub particle : after (steps p) s (q ∷ qs) ≡ after (steps p) (answer s q).particle qs
    pub exact : exact_after (steps p) s (q ∷ qs) x ≡ exact_after (steps p) (answer s q).particle qs (exact_step (numbers_of_of p q) x)
    pub calls : accepted (steps p) s (q ∷ qs) ≡ q ∷ accepted (steps p) (answer s q).particle qs

  pub at_accepted : (answer s q).refusal ≡ 0 → Accepted
  unfolding after exact_after accepted exact_run
  at_accepted e = let t = eq-eqb (answer s q).refusal 0 e in record { particle = refl; exact = rw t; calls = rw t }

  -- a refused one: nothing changes
  pub record Refused : Type 0 where
    pub particle : after (steps p) s (q ∷ qs) ≡ after (steps p) s qs
    pub exact : exact_after (steps p) s (q ∷ qs) x ≡ exact_after (steps p) s qs x
    pub calls : accepted (steps p) s (q ∷ qs) ≡ accepted (steps p) s qs

  pub at_refused : ((answer s q).refusal ≡ 0 → ⊥) → Refused
  unfolding after exact_after accepted
  at_refused n =
      let t = ne_eqb (answer s q).refusal 0 n in
      let e = step_refused s q.flux q.dt q.temp n in
      record { particle = rw e; exact = rw (t, e); calls = rw (t, e) }

-- K = 0: where no call is accepted, as in an empty list, each node is its exact one
module _ (p : ParticleDiffusion) where
  abbrev Idle : List Call → ParticleDiffusion → List Fraction → Type 0
  Idle qs s x = length (accepted (steps p) s qs) ≡ 0 → (after (steps p) s qs ≡ s) × (exact_after (steps p) s qs x ≡ x)

  idle : (qs : List Call) (s : ParticleDiffusion) (x : List Fraction) → Idle qs s x
  unfolding after exact_after
  idle [] s x h = (refl, refl)
  idle (q ∷ qs) s x h = go (eqb (answer s q).refusal 0) refl (idle qs s x)
    where
      go : (b : Bool) → eqb (answer s q).refusal 0 ≡ b → Idle qs s x → (after (steps p) s (q ∷ qs) ≡ s) × (exact_after (steps p) s (q ∷ qs) x ≡ x)
      go true e f = let y = sym (ap length (at_accepted p s q qs x (eqb-true (answer s q).refusal 0 e)).calls) ∙ h in absurd (omega (arith, y))
      go false e f =
          let r = at_refused p s q qs x (eqb-false (answer s q).refusal 0 e) in
          let i = f (sym (ap length r.calls) ∙ h) in
          (r.particle ∙ i.0, r.exact ∙ i.1)

  pub particle_equal : (qs : List Call) → K p qs ≡ 0 → (i : ℕ) → place p qs i ≡ exact_place p qs i
  particle_equal qs h i = let e = idle qs p (map val p.c_s) h in rw (e.0, e.1) (sym (values_at p.c_s i))
