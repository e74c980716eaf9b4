pub mod Items
pub mod Weights
pub mod Runs
