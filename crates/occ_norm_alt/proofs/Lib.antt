pub mod Offering
pub mod Making
pub mod Branching
pub mod Alternating
pub mod Joining
pub mod Placed
pub mod Receiving
pub mod Guarding
pub mod Alternatives
pub mod Steps
pub mod Adding
pub mod Done
pub mod AtOnce
pub mod ByStates
pub use Rattle.occ_norm_frame.proofs as from_norm_frame
pub use Rattle.occ_norm_frame.proofs.from_usage as from_usage
