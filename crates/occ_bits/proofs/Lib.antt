pub mod Arithmetic
pub mod Numbers
pub mod Laid
pub mod Steps
pub mod Ends
pub mod Values
pub mod Parts
pub mod States
pub mod Compared
pub mod Reaching
pub mod Composing
pub use Rattle.occ_dd.proofs as from_dd
pub use Rattle.occ_meaning.proofs as from_meaning
