pub mod Unfolding
pub mod Growth
pub mod Freeing
pub mod Alive
pub mod Assembled
pub mod Accepting
pub mod Public
pub mod Merging
pub mod Stepping
pub mod States
pub mod AtOnce
pub mod Passing
pub mod Staying
pub mod Keeping
pub use Rattle.occ_choice.proofs.from_accept as from_accept
pub use Rattle.occ_choice.proofs as from_choice
pub use Rattle.occ_choice.proofs.from_mdd as from_mdd
pub use Rattle.occ_choice.proofs.from_node as from_node
