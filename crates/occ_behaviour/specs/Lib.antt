pub mod States
pub mod Places
pub mod Members
pub mod Texts
