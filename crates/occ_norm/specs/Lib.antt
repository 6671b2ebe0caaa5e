pub mod From
pub mod Parts
pub mod Root
unfoldable pub use Rattle.occ_syntax.specs.View.{tree}
pub use Rattle.occ_compare.specs.occ_accept as occ_accept
pub use Rattle.occ_compare.specs.occ_behaviour as occ_behaviour
pub use Rattle.occ_compare.specs.occ_bits as occ_bits
pub use Rattle.occ_compare.specs as occ_compare
pub use Rattle.occ_compare.specs.occ_dd as occ_dd
pub use Rattle.occ_compare.specs.occ_mdd as occ_mdd
pub use Rattle.occ_compare.specs.occ_node as occ_node
