-- Single-particle cells as images.
pub mod Images
