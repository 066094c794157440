-- `dfn_images::cell_at` meets its contract. Assumes nothing.
use Rattle.dfn_images.specs.Images.{cell_at}
use Rattle.dfn_images.proofs.cell_at.Goals as goal

pub returns : goal.returns
unfolding cell_at
returns c =
    rw (
      c.read_places-3.ensures,
      c.read_places-2.ensures,
      c.read_places.ensures,
      c.read_f64-5.ensures,
      c.read_f64-4.ensures,
      c.read_f64-3.ensures,
      c.read_f64-2.ensures,
      c.read_f64.ensures,
      c.config_at-config.ensures,
      c.params_at-params.ensures,
    )
