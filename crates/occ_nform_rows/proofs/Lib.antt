pub mod Halving
pub mod Placing
pub mod Sorting
pub mod Ranking
pub mod Listing
pub mod Marking
pub mod Rows
pub use Rattle.occ_compare.proofs.from_accept as from_accept
pub use Rattle.occ_compare.proofs as from_compare
pub use Rattle.occ_compare.proofs.from_meaning as from_meaning
pub use Rattle.occ_nform_table.proofs as from_nform_table
pub use Rattle.occ_compare.proofs.from_node as from_node
