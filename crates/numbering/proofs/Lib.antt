pub mod Apart
pub mod Ranks
