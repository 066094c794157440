-- Which calls a particle that passes the checks accepts: those whose own numbers are in the table's ranges, whatever came before them. Assumes nothing.
use Rattle.std.specs.Prelude.{◌≡◌, refl, List, [], ◌∷◌}
use Rattle.diffusion.specs.Calls.{accepted}
use Rattle.particle.specs.declared.ParticleDiffusion.{ParticleDiffusion}
use Rattle.particle.specs.Checks.{particle_refusal}
use Rattle.particle_laws.specs.Closure.{step_stays}
use Rattle.particle_laws.specs.Demand.{Call, answer, steps, taken}
use Rattle.particle_laws.specs.Accepted.{answer_number, fitting}

accepted_are : (p : ParticleDiffusion) (qs : List Call) (s : ParticleDiffusion) → particle_refusal s ≡ 0 → accepted (steps p) s qs ≡ fitting qs
unfolding accepted fitting
accepted_are p [] s h = refl
accepted_are p (q ∷ qs) s h = rw (answer_number s q h, accepted_are p qs (answer s q).particle (step_stays s q.flux q.dt q.temp h))

pub taken_are : (p : ParticleDiffusion) (qs : List Call) → particle_refusal p ≡ 0 → taken p qs ≡ fitting qs
taken_are p qs h = accepted_are p qs p h
