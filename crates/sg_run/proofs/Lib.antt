pub mod Classes
mod Fronts
mod Made
mod OneCause
mod OneText
mod Pieces
mod Promised
mod Refused
pub mod Texts
mod Words
mod Summed
mod Tallied
