pub mod Looking
pub mod Tries
pub mod Trying
