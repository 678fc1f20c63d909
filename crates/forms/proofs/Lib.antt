pub mod Meanings
pub mod Passing
pub mod PassingNames
