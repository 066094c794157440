-- The calls that give a record.
pub mod Calls
pub mod Builds
