pub mod Numerals
pub mod Spellings
pub mod Words
