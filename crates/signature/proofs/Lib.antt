pub mod Differ
pub mod Lengths
pub mod OperandTexts
pub mod WalkLengths
pub mod Walks
pub mod Wholes
