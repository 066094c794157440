-- What stands after k turns of a loop that writes a stretch of places in the middle of a list.
pub mod ArrayUpdate
