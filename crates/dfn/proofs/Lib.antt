pub mod Refusals
pub mod Endings
