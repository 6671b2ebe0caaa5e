pub mod Law
pub mod Shared
pub mod Scoped
pub mod Lists
pub mod Putting
pub mod Judging
pub use Rattle.occ_names.proofs.from_meaning as from_meaning
pub use Rattle.occ_names.proofs as from_names
