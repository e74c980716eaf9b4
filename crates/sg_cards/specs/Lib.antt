pub mod Numbering
pub mod Seeds
pub mod Scanned
