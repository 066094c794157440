-- Swaps: the exchange of two places as `swap` makes it.
pub mod Swaps
