pub mod Scanned
pub mod Runs
pub mod Owners
pub mod Standing
pub mod Freed
pub mod Taken
pub mod Large
