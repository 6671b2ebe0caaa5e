pub mod Written
pub use Rattle.occ_base.proofs as from_base
