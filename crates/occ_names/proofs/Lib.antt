pub mod Sets
pub mod Listed
pub mod Collected
pub mod Members
pub mod Replaced
pub mod Substituted
pub use Rattle.occ_meaning.proofs as from_meaning
