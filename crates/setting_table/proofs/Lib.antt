-- Table: what the rows of the table say.
-- Ways: the three ways to a name's place.
pub mod Table
pub mod Ways
