pub mod Strict
pub mod Events
pub mod Chains
pub mod Search
pub mod Sets
