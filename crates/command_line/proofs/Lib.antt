-- Signs: a text without an '='.
pub mod Signs
