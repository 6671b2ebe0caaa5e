pub mod Pairing
pub mod Turning
pub mod Altering
pub mod Public
pub mod Keeping
