-- The numbers that C calls the calls by, 1 to 12. Definitions only.
use Rattle.std.specs.Prelude.{ℕ}
use Rattle.image_builds.specs.declared.calls.Ready.{Ready}
use Rattle.image_builds.specs.declared.calls.Ready.TheVariants.{GraphiteAnode, LfpCathode, NmcCathode, Lipf6EcDmc, NmcGraphite, LfpGraphite}
use Rattle.image_builds.specs.declared.calls.NewCell.{NewCell}
use Rattle.image_builds.specs.declared.calls.NewCell.TheVariants.{GraphiteLfp, GraphiteNmc, FromSheets}
use Rattle.image_builds.specs.declared.calls.New.{New}
use Rattle.image_builds.specs.declared.calls.New.TheVariants.{Particle, Cell, Electrolyte, Dfn}
use Rattle.image_builds.specs.declared.calls.BuildCall.{BuildCall}
use Rattle.image_builds.specs.declared.calls.BuildCall.TheVariants.{OfReady, OfNew}

abbrev pub ready_call : Ready → ℕ
ready_call GraphiteAnode = 1
ready_call LfpCathode = 2
ready_call NmcCathode = 3
ready_call Lipf6EcDmc = 4
ready_call NmcGraphite = 5
ready_call LfpGraphite = 6

abbrev pub cell_call : NewCell → ℕ
cell_call GraphiteLfp = 8
cell_call GraphiteNmc = 9
cell_call FromSheets = 10

abbrev pub new_call : New → ℕ
new_call Particle = 7
new_call (Cell of) = cell_call of
new_call Electrolyte = 11
new_call Dfn = 12

abbrev pub call_number : BuildCall → ℕ
call_number (OfReady of) = ready_call of
call_number (OfNew of) = new_call of
