pub mod Plain
pub mod Leading
pub mod Claims
