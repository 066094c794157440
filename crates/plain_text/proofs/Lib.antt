-- Ahead: what a text begins and ends with, byte by byte.
pub mod Ahead
