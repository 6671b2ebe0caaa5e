pub mod Together
pub mod Views
pub mod Weights
pub mod Sums
pub mod Counting
pub mod Widest
pub mod Rows
pub mod Within
pub mod Widths
pub use Rattle.occ_base.proofs as from_base
