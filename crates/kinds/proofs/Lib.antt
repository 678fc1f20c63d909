pub mod Agree
pub mod Numbers
pub mod Rule
