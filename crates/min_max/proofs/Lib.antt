pub mod Format
pub mod SignLaws
pub mod CountLaws
pub mod ChoiceLaws
