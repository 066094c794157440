pub mod Dense
pub mod Reports
pub mod DfnSteps
pub mod ReadBack
