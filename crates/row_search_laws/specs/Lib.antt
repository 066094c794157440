-- What simulate_discharge and run_galvanostatic leave, refused or not: each place of the summary is the lowest voltage of its group, and the search for the
-- first row under a voltage is the full read.
--
-- FiniteVoltage: an accepted step of either cell reports a finite voltage.
-- RunLeft: the laws over any run whose rows have finite voltages.
-- Discharge: of simulate_discharge.
-- Galvanostatic: of run_galvanostatic.
pub mod FiniteVoltage
pub mod RunLeft
pub mod Discharge
pub mod Galvanostatic
