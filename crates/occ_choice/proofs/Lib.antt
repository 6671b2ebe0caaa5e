pub mod Reaching
pub mod Uniting
pub mod Choosing
pub use Rattle.occ_node.proofs.from_accept as from_accept
pub use Rattle.occ_node.proofs.from_dd as from_dd
pub use Rattle.occ_node.proofs.from_mdd as from_mdd
pub use Rattle.occ_node.proofs as from_node
