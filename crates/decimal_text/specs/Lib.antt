-- A decimal's text.
--
-- Nearest: the power of ten, and the binary64 nearest to digits / 10 ^ places.
-- Digits: a run of digits, where it ends and its number.
-- DecimalText: the parts of a text, and the number that it says.
pub mod Nearest
pub mod Digits
pub mod DecimalText
