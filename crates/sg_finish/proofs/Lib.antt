pub mod Replays
pub mod Allowing
pub mod Going
