-- A charger's phases on the single-particle cell, from docs/REFERENCE.md ("Cycles").
--
-- Phases: what each phase applies, when it ends, what is asked of its number; the list of phases written out.
-- Cycle: every row is a step of the cell with the current of the phase under way; what the cycle gives and leaves in the slice is given whole.
-- States: a cycle on its way as the definitions see it.
-- Counters: the same by the code's counters.
-- Settings: what a cycle that nothing refuses as a whole has met.
-- Walk: the counters walk the list written out.
pub mod Phases
pub mod Cycle
pub mod States
pub mod Counters
pub mod Settings
pub mod Walk
