-- Turns: the text grows byte by byte, digit by digit.
pub mod Turns
