pub mod Shapes
pub mod Codes
