-- A binary64 as decimal text.
--
-- Limbs: arithmetic on limbs.
-- Spelling: the digits one by one, and the text.
-- Capacity: what is put keeps a line within its room.
pub mod Limbs
pub mod Spelling
pub mod Capacity
