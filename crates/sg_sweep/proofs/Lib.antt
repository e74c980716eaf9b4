pub mod Clearing
pub mod Writing
