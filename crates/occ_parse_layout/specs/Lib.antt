pub mod Layout
pub mod Scan
pub mod Nesting
pub mod Whole
pub mod Options
