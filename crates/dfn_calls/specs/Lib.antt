-- Steps of an electrolyte, steps and runs of a Doyle-Fuller-Newman cell on their images.
pub mod Steps
pub mod Runs
