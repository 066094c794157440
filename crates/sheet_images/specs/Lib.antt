-- Sheets, particles and configurations as images.
pub mod Images
