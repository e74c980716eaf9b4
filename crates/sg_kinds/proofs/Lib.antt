pub mod Tables
pub mod Walks
pub mod Lengths
pub mod Depths
pub mod Scripts
pub mod OneMisuse
