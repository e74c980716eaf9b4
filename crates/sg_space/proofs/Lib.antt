pub mod Fresh
pub mod Pair
pub mod Placed
pub mod Reached
pub mod Told
pub mod Rests
pub mod Slots
pub mod Read
pub mod Marked
pub mod Kept
mod Passing
