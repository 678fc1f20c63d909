pub mod Memories
pub mod Operands
