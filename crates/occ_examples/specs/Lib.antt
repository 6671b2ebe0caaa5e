pub mod Programs
pub mod Sayings
