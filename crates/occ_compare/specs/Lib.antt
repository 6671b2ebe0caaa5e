pub mod Places
pub mod Orders
pub mod Interface
pub mod Walk
pub mod Steps
pub mod Verdicts
pub mod Views
pub mod Excess
pub mod Difference
pub mod Stuck
pub mod Programs
pub use Rattle.occ_node.specs.occ_accept as occ_accept
pub use Rattle.occ_behaviour.specs as occ_behaviour
pub use Rattle.occ_bits.specs as occ_bits
pub use Rattle.occ_bits.specs.occ_dd as occ_dd
pub use Rattle.occ_node.specs.occ_mdd as occ_mdd
pub use Rattle.occ_bits.specs.occ_meaning as occ_meaning
pub use Rattle.occ_node.specs as occ_node
