pub mod Boards
pub mod Epochs
pub mod Going
