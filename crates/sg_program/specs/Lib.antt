pub mod Scripts
pub mod Tests
pub mod Limits
pub mod Kinds
pub mod Counts
pub mod Invariants
pub mod Laws
