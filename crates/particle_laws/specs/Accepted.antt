-- Which calls a particle that passes the checks accepts: those whose own numbers are in the table's ranges, whatever came before them. Assumes nothing.
use Rattle.std.specs.Prelude.{ℕ, ◌≡◌, cond, List, [], ◌∷◌, eqb}
use Rattle.std.proofs.Common.{◌∙◌}
use Rattle.refusal.specs.Numbers.{first_refusal, refusal_unless, load, interval, temperature}
use Rattle.refusal.specs.Ranges.{load_fits_of, interval_fits, temperature_fits}
use Rattle.particle.specs.declared.ParticleDiffusion.{ParticleDiffusion}
use Rattle.particle.specs.Checks.{particle_refusal}
use Rattle.particle.specs.Calls.{step_refusal}
use Rattle.particle_laws.specs.Closure.{step_number}
use Rattle.particle_laws.specs.Demand.{Call, answer}
use Rattle.binary64.specs.Literals.{«1e13»}

-- the number that a call meets by itself: its flux, interval and temperature
unfoldable pub call_refusal : Call → ℕ
call_refusal q =
    first_refusal (refusal_unless (load_fits_of q.flux «1e13») load)
    (first_refusal (refusal_unless (interval_fits q.dt) interval) (refusal_unless (temperature_fits q.temp) temperature))

pub answer_number : (p : ParticleDiffusion) (q : Call) → particle_refusal p ≡ 0 → (answer p q).refusal ≡ call_refusal q
unfolding step_refusal call_refusal first_refusal
answer_number p q h = step_number p q.flux q.dt q.temp ∙ rw h

-- the calls of a list that meet none
unfoldable pub fitting : List Call → List Call
fitting [] = []
fitting (q ∷ qs) = cond (eqb (call_refusal q) 0) (q ∷ fitting qs) (fitting qs)
