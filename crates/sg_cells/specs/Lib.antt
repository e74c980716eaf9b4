pub mod Ended
pub mod Made
pub mod Allowed
pub mod Passing
