-- The overpotential with H by the logarithm at every argument, and where it is the overpotential: wherever that argument is not below 2 ^ -10 in size. Assumes nothing.
use Rattle.std.specs.Prelude.{◌≡◌, false, Float}
use Rattle.std.proofs.Common.{ap}
use Rattle.elementary.specs.Asinh.{asinh_log, is_small}
use Rattle.elementary.specs.AsinhForms.{asinh_log_lem}
use Rattle.particle.specs.declared.ParticleDiffusion.{ParticleDiffusion}
use Rattle.kinetics.specs.declared.SpmConfig.{SpmConfig}
use Rattle.kinetics.specs.Kinetics.{overpotential_argument, overpotential_with, overpotential}

abbrev pub overpotential_by_log : SpmConfig → Float → ParticleDiffusion → Float → Float
overpotential_by_log s j p t = overpotential_with s p t (asinh_log (overpotential_argument j p))

pub overpotential_kept : (s : SpmConfig) (j : Float) (p : ParticleDiffusion) (t : Float) → is_small (overpotential_argument j p) ≡ false → overpotential s j p t ≡ overpotential_by_log s j p t
unfolding overpotential
overpotential_kept s j p t h = ap (overpotential_with s p t) (asinh_log_lem (overpotential_argument j p) h)
