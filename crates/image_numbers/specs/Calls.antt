-- The numbers that C calls the calls by, 1 to 19. Definitions only.
use Rattle.std.specs.Prelude.{ℕ}
use Rattle.image_numbers.specs.declared.calls.SheetCall.{SheetCall}
use Rattle.image_numbers.specs.declared.calls.SheetCall.TheVariants as S
use Rattle.image_numbers.specs.declared.calls.ParticleCall.{ParticleCall}
use Rattle.image_numbers.specs.declared.calls.ParticleCall.TheVariants as P
use Rattle.image_numbers.specs.declared.calls.CellCall.{CellCall}
use Rattle.image_numbers.specs.declared.calls.CellCall.TheVariants as C
use Rattle.image_numbers.specs.declared.calls.RateCall.{RateCall}
use Rattle.image_numbers.specs.declared.calls.RateCall.TheVariants as R
use Rattle.image_numbers.specs.declared.calls.ElectrolyteCall.{ElectrolyteCall}
use Rattle.image_numbers.specs.declared.calls.ElectrolyteCall.TheVariants as E
use Rattle.image_numbers.specs.declared.calls.NumberCall.{NumberCall}
use Rattle.image_numbers.specs.declared.calls.NumberCall.TheVariants.{OfSheet, SphereVolume, OfParticle, OfCell, OfRates, OfElectrolyte}

abbrev pub sheet_call : SheetCall → ℕ
sheet_call S.DS = 1
sheet_call S.SpecificArea = 2
sheet_call S.Ocp = 3
sheet_call S.DocpDtheta = 4

abbrev pub particle_call : ParticleCall → ℕ
particle_call P.DtStable = 6
particle_call P.ThetaSurface = 7
particle_call P.ThetaAvg = 8
particle_call P.CAvg = 9
particle_call P.OcpSurface = 10

abbrev pub cell_call : CellCall → ℕ
cell_call C.Ocv = 11
cell_call C.SocEstimate = 12

abbrev pub rate_call : RateCall → ℕ
rate_call R.DE = 13
rate_call R.Kappa = 14
rate_call R.DEEff = 15
rate_call R.KappaEff = 16

abbrev pub electrolyte_call : ElectrolyteCall → ℕ
electrolyte_call E.NTotal = 17
electrolyte_call E.CAvg = 18
electrolyte_call E.DtStable = 19

abbrev pub call_number : NumberCall → ℕ
call_number (OfSheet call) = sheet_call call
call_number SphereVolume = 5
call_number (OfParticle call) = particle_call call
call_number (OfCell call) = cell_call call
call_number (OfRates call) = rate_call call
call_number (OfElectrolyte call) = electrolyte_call call
