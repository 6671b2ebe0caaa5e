pub mod Taken
pub mod Chain
pub mod Reaching
pub mod Checking
