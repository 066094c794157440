pub mod Exp
pub mod LastTerms
pub mod Ln
pub mod Asinh
pub mod AsinhForms
pub mod Power
pub mod Arrhenius
