-- The arrays of the cells, of which the first n places are used and the others are +0.
--
-- Places: a place, the tests of places, an array filled to its used length.
-- Laws: what a place of an array that fits has passed, and back.
pub mod Places
pub mod Laws
