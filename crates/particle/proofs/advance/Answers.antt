-- `particle::advance` meets its contract: the prepared sub-step is the sub-step. Assumes nothing.
use Rattle.iterate.specs.Iterate.{times_cong}
use Rattle.profile.specs.Same.{same_sub_step}
use Rattle.particle.specs.Particle.{particle_of, sub_step_params_of}
use Rattle.particle.proofs.advance.Goals as goal

pub sub_steps-requires : goal.sub_steps-requires
sub_steps-requires c =
    rw (c.prepare-v.ensures, c.count-count.ensures.value) c.count-count.ensures.few

pub returns : goal.returns
returns c =
    let a = c.args in
    let p = particle_of a.params a.n a.c in
    rw (c.sub_steps.ensures, c.prepare-v.ensures, c.inverse_radii-w.ensures, c.spacing-dr.ensures, c.count-count.ensures.value)
    (times_cong _ _ a.turns (same_sub_step (sub_step_params_of p a.d_s a.j_n a.dt) c.count-count.ensures.few.1) a.c)
