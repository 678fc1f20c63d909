pub mod Numerals
pub mod Overlays
pub mod Sized
pub mod Uppercase
pub mod Writes
