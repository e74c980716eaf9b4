pub mod Faults
pub mod LineLimits
pub mod Laws
