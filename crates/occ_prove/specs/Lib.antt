pub mod Undone
pub mod Joined
pub mod Proofs
pub mod Answers
pub mod Pairs
pub mod Normal
pub mod Paths
