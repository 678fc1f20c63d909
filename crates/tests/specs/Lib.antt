pub mod Entries
pub mod Two
