pub mod Numbers
pub mod Named
pub mod Known
mod Rows
pub mod Instances
pub use Rattle.occ_bits.proofs as from_bits
pub use Rattle.occ_bits.proofs.from_meaning as from_meaning
