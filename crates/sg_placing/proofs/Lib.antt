pub mod Answered
pub mod Fresh
pub mod Heaps
pub mod Placed
pub mod Seats
pub mod Spots
