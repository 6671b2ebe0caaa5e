pub mod Turns
pub mod Asking
pub mod Lines
pub mod Walking
