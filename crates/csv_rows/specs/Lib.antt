-- A run's rows as CSV.
--
-- Row: the text of a row.
pub mod Row
