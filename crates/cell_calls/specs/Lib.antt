-- Steps and runs of a particle and of a single-particle cell on their images.
pub mod Steps
pub mod Phases
pub mod Runs
