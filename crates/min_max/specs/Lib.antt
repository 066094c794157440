-- MinMax: absolute value, sign, clamp, max, min. Count: the least whole number not below a quotient.
pub mod MinMax
pub mod Count
