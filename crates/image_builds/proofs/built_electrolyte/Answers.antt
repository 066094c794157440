-- `image_builds::built_electrolyte` meets its contract. Assumes nothing.
use Rattle.electrolyte_images.specs.Images.{electrolyte_at}
use Rattle.image_builds.specs.Builds.{electrolyte_built}
use Rattle.image_builds.proofs.built_electrolyte.Goals as goal

pub returns : goal.returns
unfolding electrolyte_built electrolyte_at
returns c =
    rw c.electrolyte_at-e.ensures at c.new.ensures
