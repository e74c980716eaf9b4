pub mod Uniqueness
pub mod Runs
pub mod Stands
pub mod Ordered
