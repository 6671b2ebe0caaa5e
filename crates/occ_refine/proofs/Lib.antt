pub mod Least
pub mod Bridge
pub mod Steps
pub mod Only
pub mod Taking
pub mod Rooting
pub mod Nearness
pub mod Listing
pub mod Sticking
pub mod Unknown
pub mod Outside
pub mod Walked
pub mod Both
pub mod Unique
pub mod Link
pub use Rattle.occ_norm.proofs.from_accept as from_accept
pub use Rattle.occ_norm.proofs.from_compare as from_compare
pub use Rattle.occ_norm.proofs.from_dd as from_dd
pub use Rattle.occ_norm.proofs.from_node as from_node
pub use Rattle.occ_norm.proofs as from_norm
