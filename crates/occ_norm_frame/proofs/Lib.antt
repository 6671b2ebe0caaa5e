pub mod Worlds
pub mod Placing
pub mod Keeping
pub mod FrameBits
pub mod After
pub mod Changing
pub mod Turning
pub mod Alone
pub use Rattle.occ_weave.proofs.from_accept as from_accept
pub use Rattle.occ_bits.proofs as from_bits
pub use Rattle.occ_weave.proofs.from_choice as from_choice
pub use Rattle.occ_bits.proofs.from_dd as from_dd
pub use Rattle.occ_bits.proofs.from_meaning as from_meaning
pub use Rattle.occ_weave.proofs.from_node as from_node
pub use Rattle.occ_usage.proofs as from_usage
pub use Rattle.occ_weave.proofs as from_weave
