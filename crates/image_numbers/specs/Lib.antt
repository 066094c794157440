-- The calls that give a number from an image.
pub mod Calls
pub mod Numbers
