pub mod State
pub mod Setting
pub mod Turning
pub mod Testing
pub mod Searching
