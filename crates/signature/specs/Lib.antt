pub mod Masks
pub mod Pieces
pub mod Settings
pub mod Signature
pub mod Walk
