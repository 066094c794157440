-- Doyle-Fuller-Newman cells as images.
pub mod Images
