-- Columns: a row's line grows column by column.
pub mod Columns
