-- The command line of a program that runs a cell.
--
-- Arguments: what the first argument asks for, and the cell that a run's numbers make.
pub mod Arguments
