pub mod Fronts
pub mod Places
pub mod Processes
pub mod Chosen
pub mod Made
