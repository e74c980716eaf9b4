pub mod Looks
pub mod Claims
