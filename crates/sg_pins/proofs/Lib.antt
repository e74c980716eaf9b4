pub mod Merging
pub mod Owners
