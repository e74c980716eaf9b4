mod Alone
mod Answering
mod Chains
mod Counting
mod OfMoves
mod Runs
mod Scripts
mod Stepping
