pub mod Rules
pub mod Resting
pub mod Runnable
pub mod Sane
pub mod Acting
pub mod Careful
