pub mod Bits
pub mod Lines
pub mod Listed
pub mod Nursery
pub mod Used
pub mod Whole
pub mod Four
