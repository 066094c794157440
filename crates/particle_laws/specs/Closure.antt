-- What a particle's calls lead to: an accepted one to a particle that passes the checks again, a refused step to the particle as it was. Refusal 8 never comes from a step.
-- Assumes nothing.
use Prim.Native.Nat.{ℕ, zero, suc, ◌<◌, ◌≤◌}
use Rattle.std.specs.Prelude.{◌≡◌, Bool, true, false, cond, [], ◌∷◌, T, ltb, eqb, Float, get_or}
use Rattle.std.proofs.Math.Path.{refl}
use Rattle.std.proofs.Common.{sym, ◌∙◌, ltb-true, ltb-false, zero-lt-suc, arith}
use Rattle.std.proofs.Math.Dec.{eqb-suc-zero}
use Rattle.std.specs.Float.{nan, inf, fin, binary64}
use Rattle.std.specs.Float.Ieee.{le, fits, of_bits, to_bits}
use Rattle.std.specs.Float.Ieee.Bits.{is_true}
use Rattle.std.specs.Float.Ieee.Fits.{and_i}
use Rattle.std.specs.Float.Ieee.Scale.{finite}
use Rattle.fraction.specs.Fraction.{whole, nat, ◌≈F◌}
use Rattle.fraction.proofs.Field.{≈F-sym, ≤F-of-≈F, ≤F-trans, le_of_lt}
use Rattle.fraction.proofs.Order.{lit≈F}
use Rattle.fraction.proofs.Size.{size_pos}
use Rattle.fraction.proofs.Certificate.{quote}
use Rattle.fraction.proofs.Certificate.{le_by, up, ◌⊠◌}
use Rattle.binary64.specs.Operators.{◌⊗◌}
use Rattle.binary64.specs.Order.{between_finite}
use Rattle.binary64.proofs.Bounds.{within_scaled}
use Rattle.binary64.proofs.OrderLaws.{rounds_le}
use Rattle.binary64.proofs.Rounds.{representable, mul_rounds}
use Rattle.binary64.specs.Value.{val}
use Rattle.binary64.proofs.Value.{le_val}
use Rattle.binary64.specs.Literals.{«0·0»}
use Rattle.elementary.specs.Exp.{one}
use Rattle.refusal.specs.Numbers.{grid, sheet, neither_refused, passed}
use Rattle.refusal.specs.Ranges.{in_range, plus_zero}
use Rattle.iterate.specs.Iterate.{all_of}
use Rattle.arrays.specs.Laws.{filled_fits}
use Rattle.electrode.specs.Sheet.{sheet_fits, diffusivity_at}
use Rattle.electrode.specs.declared.ElectrodeParams.{ElectrodeParams}
use Rattle.diffusion.specs.SubStep.{SubStepParams, sub_step}
use Rattle.diffusion.specs.Premises.{zero_fine, zero_val}
use Rattle.diffusion.proofs.Profile as Profile
use Rattle.profile.specs.Places.{profile_fits, finite_profile}
use Rattle.particle.specs.declared.ParticleDiffusion.{ParticleDiffusion}
use Rattle.particle.specs.Answers.{ParticleAnswer}
use Rattle.particle.specs.Checks.{nodes_fit, particle_refusal, nodes_valid}
use Rattle.particle.specs.Particle.{place_of, with_profile, sub_step_params_of}
use Rattle.particle.specs.Calls.{particle_answer, new_refusal, fresh, no_particle, made, step_refusal, step_particle, accepted, stepped}
use Rattle.particle_laws.specs.Ranges.{sheet_ranges, nodes_passed, sheet_passed, step_ranged}
use Rattle.particle_laws.specs.Checked.{unused_passed, particle_in_range, particle_fits, particle_passes}
use Rattle.particle_laws.specs.Nodes.{node_in}

-- ---- every place of a particle that passes is finite
zero_finite : (x : Float) → T (plus_zero x) → T (finite x)
unfolding plus_zero to_bits
zero_finite nan t = absurd t
zero_finite (inf true) t = absurd t
zero_finite (inf false) t = absurd t
zero_finite (fin s m e) t = tt

pub places_finite : (p : ParticleDiffusion) → particle_refusal p ≡ 0 → T (finite_profile p.c_s)
places_finite p h = all_of (λ i. finite (place_of p i)) 64 (λ i l. place i l (ltb i p.n_nodes) refl)
  where
    place : (i : ℕ) → i < 64 → (b : Bool) → ltb i p.n_nodes ≡ b → T (finite (place_of p i))
    place i l true e = ((particle_in_range p h).nodes i (ltb-true i p.n_nodes e)).fine
    place i l false e = zero_finite (place_of p i) (unused_passed p h i (ltb-false i p.n_nodes e) l)

-- ---- a step
module _ (p : ParticleDiffusion) (j dt t : Float) where
  abbrev pub step_params : SubStepParams
  step_params = sub_step_params_of p (diffusivity_at p.params t) j dt

  abbrev pub next : ParticleDiffusion
  next = with_profile p (sub_step step_params p.c_s)

  next_passes : step_refusal p j dt t ≡ 0 → particle_refusal next ≡ 0
  next_passes e =
      let h = step_particle p j dt t e in
      let w = particle_in_range p h in
      particle_passes next (nodes_passed p h) (sheet_passed p h)
      (λ i l. rw (Profile.step_place step_params p.c_s i l w.long) (node_in step_params (step_ranged p j dt t e) (λ k. get_or p.c_s k nan) w.nodes i l))
      (λ i l m. rw (Profile.step_unused step_params p.c_s i nan l) (unused_passed p h i l m))

  -- what it answers: a number and the particle as it was, or 0 and the new profile
  pub data Leads : ParticleAnswer → Type 0 where
    refused : (k : ℕ) → step_refusal p j dt t ≡ suc k → Leads (particle_answer (suc k) p)
    moved : step_refusal p j dt t ≡ 0 → Leads (particle_answer 0 next)

  pub leads : Leads (stepped p j dt t)
  unfolding stepped accepted
  leads = go (step_refusal p j dt t) refl
    where
      go : (k : ℕ) → step_refusal p j dt t ≡ k → Leads (cond (eqb k 0) (accepted p (sub_step step_params p.c_s)) (particle_answer k p))
      go zero e = rw (is_true (finite_profile (sub_step step_params p.c_s)) (places_finite next (next_passes e))) (Leads.moved e)
      go (suc k) e = rw (eqb-suc-zero k) (Leads.refused k e)

  -- A STEP THAT IS ACCEPTED leads to a particle that passes the checks
  pub step_passes : (stepped p j dt t).refusal ≡ 0 → particle_refusal (stepped p j dt t).particle ≡ 0
  step_passes = go (stepped p j dt t) leads
    where
      go : (a : ParticleAnswer) → Leads a → a.refusal ≡ 0 → particle_refusal a.particle ≡ 0
      go a (Leads.refused k e) z = absurd (omega (arith, z))
      go a (Leads.moved e) z = next_passes e

  -- with the profile of one sub-step
  pub step_moved : step_refusal p j dt t ≡ 0 → (stepped p j dt t).particle ≡ next
  step_moved = go (stepped p j dt t) leads
    where
      go : (a : ParticleAnswer) → Leads a → step_refusal p j dt t ≡ 0 → a.particle ≡ next
      go a (Leads.refused k e) z = absurd (omega (arith, sym e ∙ z))
      go a (Leads.moved e) z = refl

  -- and a particle that passes goes on passing, whatever the answer
  pub step_stays : particle_refusal p ≡ 0 → particle_refusal (stepped p j dt t).particle ≡ 0
  step_stays h = go (stepped p j dt t) leads
    where
      go : (a : ParticleAnswer) → Leads a → particle_refusal a.particle ≡ 0
      go a (Leads.refused k e) = h
      go a (Leads.moved e) = next_passes e

  -- A STEP THAT IS REFUSED leaves the particle as it is, bit for bit
  pub step_refused : ((stepped p j dt t).refusal ≡ 0 → ⊥) → (stepped p j dt t).particle ≡ p
  step_refused = go (stepped p j dt t) leads
    where
      go : (a : ParticleAnswer) → Leads a → (a.refusal ≡ 0 → ⊥) → a.particle ≡ p
      go a (Leads.refused k e) n = refl
      go a (Leads.moved e) n = absurd (n refl)

  -- its number is settled before it is made: 8 never comes
  pub step_number : (stepped p j dt t).refusal ≡ step_refusal p j dt t
  step_number = go (stepped p j dt t) leads
    where
      go : (a : ParticleAnswer) → Leads a → a.refusal ≡ step_refusal p j dt t
      go a (Leads.refused k e) = sym e
      go a (Leads.moved e) = sym e

  -- either way the sheet, the count of nodes and the unused places stay
  pub step_params_lem : (stepped p j dt t).particle.params ≡ p.params
  step_params_lem = go (stepped p j dt t) leads
    where
      go : (a : ParticleAnswer) → Leads a → a.particle.params ≡ p.params
      go a (Leads.refused k e) = refl
      go a (Leads.moved e) = refl

  pub step_nodes : (stepped p j dt t).particle.n_nodes ≡ p.n_nodes
  step_nodes = go (stepped p j dt t) leads
    where
      go : (a : ParticleAnswer) → Leads a → a.particle.n_nodes ≡ p.n_nodes
      go a (Leads.refused k e) = refl
      go a (Leads.moved e) = refl

  pub step_unused : (i : ℕ) → p.n_nodes ≤ i → place_of (stepped p j dt t).particle i ≡ place_of p i
  step_unused i l = go (stepped p j dt t) leads
    where
      go : (a : ParticleAnswer) → Leads a → place_of a.particle i ≡ place_of p i
      go a (Leads.refused k e) = refl
      go a (Leads.moved e) = Profile.step_unused step_params p.c_s i nan l

  -- +0 by their bits
  pub step_unused_zero : (stepped p j dt t).refusal ≡ 0 → (i : ℕ) → p.n_nodes ≤ i → i < 64 → T (plus_zero (place_of (stepped p j dt t).particle i))
  step_unused_zero e i l m = unused_passed (stepped p j dt t).particle (step_passes e) i (rw step_nodes l) m

-- ---- a build
one_fine : T (finite one)
unfolding of_bits
one_fine = tt

one_val : val one ≈F nat 1
unfolding of_bits val whole
one_val = lit≈F refl

zero_fits : T (fits binary64 «0·0»)
unfolding of_bits fits
zero_fits = tt

-- theta_init * c_s_max is from 0 to c_s_max; c_s_max is a number of binary64, as each f64 of a program is
start_in : (s : ElectrodeParams) → T (sheet_fits s) → T (fits binary64 s.c_s_max) → T (in_range (s.theta_init ⊗ s.c_s_max) «0·0» s.c_s_max)
start_in s h f =
    let r = sheet_ranges s h in
    let x = s.theta_init in
    let M = s.c_s_max in
    let p = between_finite «0·0» x one zero_fine one_fine r.initial_low r.initial_high in
    let q = r.most.0.fine in
    let a = ≤F-trans (≤F-of-≈F (≈F-sym zero_val)) (le_val «0·0» x zero_fine p r.initial_low) in
    let b = ≤F-trans (le_val x one p one_fine r.initial_high) (≤F-of-≈F one_val) in
    let m = le_of_lt (size_pos (within_scaled r.most 0 17 tt tt).size) in
    and_i (le «0·0» (x ⊗ M)) (le (x ⊗ M) M)
    (rounds_le (representable «0·0» zero_fine zero_fits) (mul_rounds x M p q) (≤F-trans (≤F-of-≈F zero_val) (le_by (val x ∷ val M ∷ []) 0 (a ⊠ m) (search quote depth 24) tt)))
    (rounds_le (mul_rounds x M p q) (representable M q f) (le_by (val x ∷ val M ∷ []) 0 (up b ⊠ m) (search quote depth 24) tt))

fresh_passes : (s : ElectrodeParams) (n : ℕ) → T (fits binary64 s.c_s_max) → new_refusal s n ≡ 0 → particle_refusal (fresh s n) ≡ 0
unfolding new_refusal fresh profile_fits
fresh_passes s n f e =
    let g = neither_refused _ _ e in
    let h = passed (sheet_fits s) sheet (zero-lt-suc 1) g.1 in
    particle_fits (fresh s n) (passed (nodes_fit n) grid (zero-lt-suc 0) g.0) h
    (filled_fits (λ x. in_range x «0·0» s.c_s_max) 64 n (s.theta_init ⊗ s.c_s_max) (nodes_valid n g.0).1 (start_in s h f))

-- A BUILD THAT IS ACCEPTED passes the checks
pub build_passes : (s : ElectrodeParams) (n : ℕ) → T (fits binary64 s.c_s_max) → (made s n).refusal ≡ 0 → particle_refusal (made s n).particle ≡ 0
unfolding made
build_passes s n f = go (new_refusal s n) refl
  where
    answer : ℕ → ParticleAnswer
    answer k = cond (eqb k 0) (particle_answer 0 (fresh s n)) (particle_answer k no_particle)

    go : (k : ℕ) → new_refusal s n ≡ k → (answer k).refusal ≡ 0 → particle_refusal (answer k).particle ≡ 0
    go zero e z = fresh_passes s n f e
    go (suc k) e z = let y : suc k ≡ 0 = rw (eqb-suc-zero k) at z in absurd (omega (arith, y))
