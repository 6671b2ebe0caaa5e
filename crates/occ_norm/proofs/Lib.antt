pub mod Changing
pub mod Simple
pub mod From
pub mod Sequences
pub mod Between
pub mod Laying
pub mod Opening
pub mod Freeing
pub mod Steps
pub mod Declaring
pub mod Rooting
pub mod Using
pub mod Beside
pub mod Flattened
pub mod Rooted
pub use Rattle.occ_compare.proofs.from_accept as from_accept
pub use Rattle.occ_compare.proofs as from_compare
pub use Rattle.occ_compare.proofs.from_dd as from_dd
pub use Rattle.occ_compare.proofs.from_meaning as from_meaning
pub use Rattle.occ_compare.proofs.from_node as from_node
pub use Rattle.occ_norm_alt.proofs.from_norm_frame as from_norm_frame
