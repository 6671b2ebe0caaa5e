pub mod Nodes
pub mod Known
pub mod Rows
pub mod Walks
pub mod Roots
pub mod Near
pub mod Interfaces
pub mod Verdict
pub use Rattle.occ_norm.specs.occ_accept as occ_accept
pub use Rattle.occ_norm.specs.occ_behaviour as occ_behaviour
pub use Rattle.occ_norm.specs.occ_compare as occ_compare
pub use Rattle.occ_norm.specs.occ_dd as occ_dd
pub use Rattle.occ_norm.specs.occ_mdd as occ_mdd
pub use Rattle.occ_norm.specs.occ_node as occ_node
pub use Rattle.occ_norm.specs as occ_norm
