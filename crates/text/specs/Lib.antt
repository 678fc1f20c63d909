pub mod Numbers
pub mod Sized
pub mod Texts
pub mod Wrote
