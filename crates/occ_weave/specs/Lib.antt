pub mod Weave
pub mod Ends
pub mod Joint
pub mod Steps
pub mod Memo
pub mod Steady
pub mod Over
pub mod States
pub use Rattle.occ_choice.specs.occ_accept as occ_accept
pub use Rattle.occ_choice.specs as occ_choice
pub use Rattle.occ_choice.specs.occ_mdd as occ_mdd
pub use Rattle.occ_choice.specs.occ_node as occ_node
