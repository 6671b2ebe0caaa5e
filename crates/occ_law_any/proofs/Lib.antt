pub mod Counting
pub mod Directing
pub mod Placing
mod Outside
pub use Rattle.occ_law_alt.proofs.from_law_shape as from_law_shape
pub use Rattle.occ_usage.proofs.from_meaning as from_meaning
pub use Rattle.occ_usage.proofs as from_usage
