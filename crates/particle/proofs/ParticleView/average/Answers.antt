-- `particle::ParticleView::average` meets its contract: the two sums are those of the definition. Assumes nothing.
use Rattle.particle.specs.Particle.{particle_of, average_by}
use Rattle.particle.proofs.ParticleView.average.Goals as goal

pub returns-then-s : goal.returns-then-s
returns-then-s c =
    let p = c.args.self.now in
    rw (average_by (particle_of p.params p.n p.c.now) c.sums_of-s.result (rw (← c.spacing-dr.ensures, ← c.count.ensures.value) c.sums_of-s.ensures), c.if-s.true)

pub returns : goal.returns
returns c =
    let p = c.args.self.now in
    rw (average_by (particle_of p.params p.n p.c.now) c.sums_of-s.result (rw (← c.spacing-dr.ensures, ← c.count.ensures.value) c.sums_of-s.ensures), c.if-s.false, c.spacing-dr.ensures)
