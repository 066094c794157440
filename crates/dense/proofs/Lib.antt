-- Sizes: laws that the functions' proofs cite.
-- Answers: unused places, and all beside a refusal, are +0; every place is finite.
-- Copies: copies made by `copy_from_slice`.
pub mod Sizes
pub mod Copies
pub mod Answers
