-- The layout of images.
pub mod Layout
