-- THEOREM 1 of the third demand: a particle, any list of calls of `step`, refused ones among them, and the exact scheme beside it. Assumes nothing.
use Rattle.std.specs.Prelude.{ℕ, ◌+◌, ◌<◌, ◌≡◌, Bool, T, Float, get_or}
use Rattle.std.proofs.Math.Path.{refl, sym, ap}
use Rattle.std.proofs.Common.{◌∙◌, subst, eqb→eq}
use Rattle.std.proofs.Math.Bool.{true, false, cond}
use mathlib.Core.List.{List, [], ◌∷◌, map}
use Rattle.std.proofs.Math.Nat.{zero-add}
use native.Mathlib.Omega.{arith}
use Rattle.std.proofs.Math.Dec.{eqb, eqb-suc-zero}
use Rattle.std.proofs.Math.ListN.{length}
use Rattle.fraction.specs.Fraction.{Fraction, nat, pow2, ◌-F◌, ◌*F◌, ◌/F◌, ◌within◌}
use Rattle.binary64.specs.Value.{val}
use Rattle.electrode.specs.Sheet.{diffusivity_at}
use Rattle.diffusion.specs.SubStep.{SubStepParams, sub_step}
use Rattle.diffusion.specs.Exact.{Numbers}
use Rattle.diffusion.specs.Premises.{StepConditions, ParametersInRange}
use Rattle.diffusion.specs.Run.{sub_step_params, run, Each}
use Rattle.diffusion.specs.Calls.{Stepper, after, accepted, total, exact_after, Lawful}
use Rattle.diffusion.proofs.CallLaws.{calls_near}
use Rattle.diffusion.proofs.CallLaws.{each_with}
use Rattle.particle.specs.declared.ParticleDiffusion.{ParticleDiffusion}
use Rattle.particle.specs.Answers.{ParticleAnswer}
use Rattle.particle.specs.Checks.{particle_refusal}
use Rattle.particle.specs.Particle.{spacing, place_of, sub_step_params_of}
use Rattle.particle.specs.Calls.{stepped}
use Rattle.particle_laws.specs.Ranges.{step_ranged, ranged_parameters}
use Rattle.particle_laws.specs.Checked.{particle_in_range}
use Rattle.particle_laws.specs.Closure.{Leads, leads, step_stays, step_number, step_params_lem, step_nodes}

-- ---- what is folded
-- a call of `step`: any floats, NaN and infinities too
pub record Call : Type 0 where
  pub flux : Float
  pub dt : Float
  pub temp : Float

-- what it answers, by the definition that the contract of `step` cites
abbrev pub answer : ParticleDiffusion → Call → ParticleAnswer
answer p q = stepped p q.flux q.dt q.temp

-- A particle p and its calls. A call is accepted where its refusal is 0; then it makes one sub-step, by the diffusivity at its temperature. The sheet and the grid stay p's.
abbrev pub steps : ParticleDiffusion → Stepper ParticleDiffusion Call
steps p = record {
  step = λ s q. (answer s q).particle;
  ok = λ s q. eqb (answer s q).refusal 0;
  moves = λ q. record { d_s = diffusivity_at p.params q.temp; j_n = q.flux; dt = q.dt } ∷ [];
  profile = λ s. s.c_s;
  grid = record { n = p.n_nodes; dr = spacing p.params p.n_nodes; c_max = p.params.c_s_max };
}

-- the binary64 numbers of a call, as fractions
abbrev pub numbers_of_of : ParticleDiffusion → Call → Numbers
numbers_of_of p q = record {
  n = p.n_nodes;
  h = val (spacing p.params p.n_nodes);
  D = val (diffusivity_at p.params q.temp);
  M = val p.params.c_s_max;
  flux = val q.flux;
  t = val q.dt;
}

module _ (p : ParticleDiffusion) (qs : List Call) where
  -- node i after the calls
  abbrev pub place : ℕ → Fraction
  place i = val (place_of (after (steps p) p qs) i)

  -- x(i): the exact scheme from the same start
  abbrev pub exact_place : ℕ → Fraction
  exact_place i = get_or (exact_after (steps p) p qs (map val p.c_s)) i (nat 0)

  -- the accepted calls, and K, their number
  abbrev pub taken : List Call
  taken = accepted (steps p) p qs

  abbrev pub K : ℕ
  K = length taken

-- ---- a particle in the middle of the list
record Inv (p s : ParticleDiffusion) : Type 0 where
  passes : particle_refusal s ≡ 0
  sheet : s.params ≡ p.params
  nodes : s.n_nodes ≡ p.n_nodes

abbrev call_params : ParticleDiffusion → Call → SubStepParams
call_params s q = sub_step_params_of s (diffusivity_at s.params q.temp) q.flux q.dt

same_params : (p s : ParticleDiffusion) (q : Call) → Inv p s → call_params s q ≡ call_params p q
same_params p s q i = rw (i.sheet, i.nodes)

-- where each call's moves are one, its total is the number of the accepted calls
one_each : {S Q : Type 0} (a : Stepper S Q) → ((q : Q) → length (a.moves q) ≡ 1) → (qs : List Q) (s : S) → total a s qs ≡ length (accepted a s qs)
unfolding total accepted
one_each a m [] s = refl
one_each {S} {Q} a m (q ∷ qs) s = rw (m q, one_each a m qs (a.step s q)) (go (a.ok s q) (accepted a (a.step s q) qs))
  where
    go : (b : Bool) (r : List Q) → cond b 1 0 + length r ≡ length (cond b (q ∷ r) r)
    go true r = omega arith
    go false r = zero-add (length r)

module _ (p : ParticleDiffusion) where
  stays : (s : ParticleDiffusion) (q : Call) → Inv p s → Inv p (answer s q).particle
  stays s q i = record {
    passes = step_stays s q.flux q.dt q.temp i.passes;
    sheet = step_params_lem s q.flux q.dt q.temp ∙ i.sheet;
    nodes = step_nodes s q.flux q.dt q.temp ∙ i.nodes;
  }

  stays_all : (qs : List Call) (s : ParticleDiffusion) → Inv p s → Inv p (after (steps p) s qs)
  unfolding after
  stays_all [] s i = i
  stays_all (q ∷ qs) s i = stays_all qs (answer s q).particle (stays s q i)

  law : (s : ParticleDiffusion) (q : Call) → Inv p s → (answer s q).particle.c_s ≡ cond (eqb (answer s q).refusal 0) (run (steps p).grid ((steps p).moves q) s.c_s) s.c_s
  unfolding run
  law s q i = go (answer s q) (leads s q.flux q.dt q.temp)
    where
      go : (a : ParticleAnswer) → Leads s q.flux q.dt q.temp a → a.particle.c_s ≡ cond (eqb a.refusal 0) (sub_step (call_params p q) s.c_s) s.c_s
      go a (Leads.refused k e) = rw (eqb-suc-zero k)
      go a (Leads.moved e) = ap (λ (v : SubStepParams). sub_step v s.c_s) (same_params p s q i)

  ranges : (s : ParticleDiffusion) (q : Call) → Inv p s → T (eqb (answer s q).refusal 0) → Each (λ m. ParametersInRange (sub_step_params (steps p).grid m)) ((steps p).moves q)
  ranges s q i t =
      let e = sym (step_number s q.flux q.dt q.temp) ∙ eqb→eq (answer s q).refusal 0 t in
      Each.more (subst ParametersInRange (same_params p s q i) (ranged_parameters (step_ranged s q.flux q.dt q.temp e))) Each.none

  -- each accepted call is one sub-step
  counted : (qs : List Call) (s : ParticleDiffusion) → total (steps p) s qs ≡ length (accepted (steps p) s qs)
  counted qs s = one_each (steps p) (λ q. refl) qs s

itself : (p : ParticleDiffusion) → particle_refusal p ≡ 0 → Inv p p
itself p h = record { passes = h; sheet = refl; nodes = refl }

-- AFTER ANY LIST OF CALLS, whether they keep the conditions or not, the particle passes the checks: its nodes are finite and from 0 to M
pub after_passes : (p : ParticleDiffusion) (qs : List Call) → particle_refusal p ≡ 0 → particle_refusal (after (steps p) p qs) ≡ 0
after_passes p qs h = (stays_all p qs p (itself p h)).passes

-- THEOREM 1. The particle passes the checks; every accepted call keeps 6·D·t ≤ h² and 2·h·∣flux∣ ≤ D·M (`StepConditions`). Then every node is within K·M / 2 ^ 49 of the exact one.
pub particle_near : (p : ParticleDiffusion) (qs : List Call) → particle_refusal p ≡ 0 → Each (λ q. StepConditions (numbers_of_of p q)) (taken p qs)
    → (i : ℕ) → i < p.n_nodes → place p qs i -F exact_place p qs i within nat (K p qs) *F val p.params.c_s_max /F pow2 49
particle_near p qs h ks i l =
    let keeps = each_with (λ q k k'. Each.more k Each.none) ks ks in
    rw (counted p qs p) at (calls_near (steps p) lawful p qs (itself p h) (particle_in_range p h) keeps i l)
  where
    lawful : Lawful (steps p) (Inv p)
    lawful = record { stays = stays p; law = law p; ranges = ranges p }
