pub mod Demand
pub mod Instance
pub mod Accepted
