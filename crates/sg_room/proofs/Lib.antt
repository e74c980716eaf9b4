pub mod Lacking
pub mod Slotting
