-- Theorems of the modules of the same names in specs/ that rest on a definition which an edit of must-fail/ changes: steps, builds, runs, replays and cycles of a
-- single-particle cell implement their definitions, and theorems 2 and 3 of the third demand for lists of them.
pub mod StepLists
pub mod BuildLists
pub mod RunLists
pub mod ReplayLists
pub mod CycleLists
pub mod MixedLists
pub mod Nodes
pub mod Demand
pub mod MixedDemand
pub mod Instance
pub mod MixedInstance
