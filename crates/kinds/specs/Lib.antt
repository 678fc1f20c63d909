pub mod Counters
pub mod Groups
pub mod Kinds
pub mod Roles
pub mod Rows
