pub mod Names
pub mod Sound
pub mod Refers
pub mod Fronted
pub mod Kept
