pub mod Parts
pub mod Whole
pub mod Root
pub mod Standard
