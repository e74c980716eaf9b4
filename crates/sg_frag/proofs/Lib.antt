mod Changes
pub mod Zeroed
mod Passing
