mod Words
mod Masks
