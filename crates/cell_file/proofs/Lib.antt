-- Lines: what a text sets, and line after line.
-- Tens: ten numbers from a place on.
pub mod Lines
pub mod Tens
