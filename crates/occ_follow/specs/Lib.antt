pub mod Sequence
pub mod Nexts
pub mod Sequences
pub use Rattle.occ_choice.specs.occ_accept as occ_accept
pub use Rattle.occ_choice.specs.occ_mdd as occ_mdd
pub use Rattle.occ_choice.specs.occ_node as occ_node
pub use Rattle.occ_scope.specs as occ_scope
