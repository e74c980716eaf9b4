-- Each generated text is one that is accepted.
pub mod Accepted
