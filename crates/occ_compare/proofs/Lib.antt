pub mod Numbers
pub mod Printing
pub mod Searching
pub mod Walking
pub mod Naming
pub mod Found
pub mod Orders
pub mod Alike
pub mod One
pub mod Differences
pub mod Named
pub use Rattle.occ_node.proofs.from_accept as from_accept
pub use Rattle.occ_bits.proofs as from_bits
pub use Rattle.occ_bits.proofs.from_dd as from_dd
pub use Rattle.occ_node.proofs.from_mdd as from_mdd
pub use Rattle.occ_bits.proofs.from_meaning as from_meaning
pub use Rattle.occ_node.proofs as from_node
