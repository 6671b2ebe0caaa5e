pub mod Lifted
pub mod Lifting
pub mod Maps
pub mod Earlier
pub mod Growth
pub mod Laws
pub mod Placed
pub mod Kept
pub mod After
pub mod Changes
pub mod Alone
pub use Rattle.occ_weave.specs.occ_accept as occ_accept
pub use Rattle.occ_bits.specs as occ_bits
pub use Rattle.occ_weave.specs.occ_choice as occ_choice
pub use Rattle.occ_bits.specs.occ_dd as occ_dd
pub use Rattle.occ_follow.specs as occ_follow
pub use Rattle.occ_weave.specs.occ_mdd as occ_mdd
pub use Rattle.occ_bits.specs.occ_meaning as occ_meaning
pub use Rattle.occ_usage.specs.occ_names as occ_names
pub use Rattle.occ_weave.specs.occ_node as occ_node
pub use Rattle.occ_follow.specs.occ_scope as occ_scope
pub use Rattle.occ_usage.specs as occ_usage
pub use Rattle.occ_weave.specs as occ_weave
