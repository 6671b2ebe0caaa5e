pub mod Declares
pub mod Facts
pub mod Levels
pub mod Newest
pub mod Reaches
pub mod Taken
pub mod Walk
