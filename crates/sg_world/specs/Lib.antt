pub mod Serving
pub mod Starting
pub mod Steps
pub mod Stopping
pub mod Telling
pub mod Worlds
