pub mod Values
pub mod Combining
pub mod Choosing
pub mod Collecting
pub use Rattle.occ_dd.proofs as from_dd
