pub mod Fronts
pub mod Parts
pub mod Parting
mod Putting
pub mod Equalities
pub mod Questions
pub mod Typed
pub use Rattle.occ_law.proofs as from_law
pub use Rattle.occ_law.proofs.from_meaning as from_meaning
