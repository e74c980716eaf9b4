pub mod LineFaults
pub mod LineBreaks
pub mod Taken
