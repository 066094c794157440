-- A Doyle-Fuller-Newman cell's parameters and grid as images.
pub mod Images
