pub mod Growing
pub mod Parting
pub mod Rights
pub mod Only
pub mod Sides
pub mod Written
pub mod Places
pub mod Assigned
