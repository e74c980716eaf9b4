-- Definitions of a generated program and of the summary of its run.
pub mod Alone
pub mod Generated
pub mod Summary
