pub mod Marking
pub mod Gray
pub mod Laws
