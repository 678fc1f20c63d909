pub mod Plans
pub mod Numbers
pub mod Lists
pub mod Counts
