mod Paths
mod Said
pub mod Typed
pub mod Known
mod Plain
pub mod Printed
mod Made
mod Grown
pub mod Renamed
pub mod NumberedKnown
pub mod Counts
pub mod Tables
pub mod Staying
pub mod Front
pub mod NumberedGrown
pub mod Behind
pub mod Joining
pub mod Covered
pub mod Reaching
pub mod NumberedPrinted
mod Left
mod Programs
mod Parts
mod Steps
