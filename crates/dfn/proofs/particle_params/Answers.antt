-- `dfn::particle_params` meets its contract. Assumes nothing.
use Rattle.dfn.proofs.particle_params.Goals as goal

pub returns : goal.returns
returns c =
    rw (c.pore_flux.ensures, c.nearest_u64_to_f64.ensures, c.get-n.ensures.value)
