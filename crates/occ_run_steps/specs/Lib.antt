pub mod Control
pub mod Settled
pub mod Step
pub mod Steps
pub mod Leads
pub mod Kept
pub mod Controlled
pub mod Reached
pub use Rattle.occ_meaning.specs as occ_meaning
