pub mod Gaps
pub mod Walk
pub mod Keeping
pub mod Cleaning
pub mod Runs
pub mod Tagged
pub mod Few
