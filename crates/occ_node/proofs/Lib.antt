pub mod Table
pub mod Places
pub mod Worlds
pub mod Behaviours
pub mod Recovery
pub use Rattle.occ_accept.proofs as from_accept
pub use Rattle.occ_mdd.proofs.from_dd as from_dd
pub use Rattle.occ_mdd.proofs as from_mdd
