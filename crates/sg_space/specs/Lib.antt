pub mod Space
pub mod Standing
pub mod Changes
pub mod Marks
pub mod Inside
pub mod Laws
pub mod Swept
pub mod Passed
