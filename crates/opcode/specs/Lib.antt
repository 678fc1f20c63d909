pub mod Heads
pub mod Operands
pub mod OpcodeText
pub mod Rest
