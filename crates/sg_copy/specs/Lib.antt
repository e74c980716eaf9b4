pub mod Copying
pub mod Telling
pub mod Grays
pub mod State
pub mod Turning
pub mod Plain
pub mod Rounds
