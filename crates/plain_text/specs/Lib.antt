-- Text as a list of bytes.
--
-- Text: blanks, lines and pieces of a text.
-- Pieces: laws on these.
pub mod Text
pub mod Pieces
