pub mod Union
pub mod Joined
pub mod Branches
pub use Rattle.occ_node.specs.occ_accept as occ_accept
pub use Rattle.occ_node.specs.occ_base as occ_base
pub use Rattle.occ_node.specs.occ_dd as occ_dd
pub use Rattle.occ_node.specs.occ_mdd as occ_mdd
pub use Rattle.occ_node.specs as occ_node
pub use Rattle.occ_node.specs.occ_syntax as occ_syntax
