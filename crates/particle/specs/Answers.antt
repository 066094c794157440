-- What a call that makes a particle answers, in the terms of docs/REFERENCE.md: the number of the refusal and a particle beside it, or 0 and the new particle. Definitions only.
use Rattle.std.specs.Prelude.{ℕ, Result, Ok, Err}
use Rattle.refusal.specs.declared.Refusal.{Refusal}
use Rattle.refusal.specs.Refusals.{number_of}
use Rattle.particle.specs.declared.ParticleDiffusion.{ParticleDiffusion}

pub record ParticleAnswer : Type 0 where
  pub refusal : ℕ
  pub particle : ParticleDiffusion

-- the first: what stands beside a refusal
abbrev pub particle_answered : ParticleDiffusion → Result ParticleDiffusion Refusal → ParticleAnswer
particle_answered p (Ok q) = record { refusal = 0; particle = q }
particle_answered p (Err e) = record { refusal = number_of e; particle = p }
