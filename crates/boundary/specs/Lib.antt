-- The stepper for C.
pub mod Calls
pub mod Runs
pub mod Search
