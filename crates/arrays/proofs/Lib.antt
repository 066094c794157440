-- Parts: the tests of an array's two parts, as slices, are the test of the whole.
-- Copies: places that a slice's method writes.
pub mod Parts
pub mod Copies
