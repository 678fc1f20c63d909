mod Cuts
pub mod FirstWord
mod FiveKinds
pub mod ManyFields
pub mod TextsIn
