pub mod Numbers
pub mod Scanning
pub mod Objects
pub mod Scans
pub mod Carded
pub mod Seeding
pub mod Cleaned
pub mod Vector
