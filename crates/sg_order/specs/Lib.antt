pub mod Opening
pub mod Rest
pub mod OneOrder
pub mod Serving
pub mod Held
pub mod Sweep
pub mod Knowing
