-- Words, numbers and rows of numbers in a string of bytes.
pub mod Words
