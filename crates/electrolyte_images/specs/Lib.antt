-- An electrolyte and its parameters as images.
pub mod Images
