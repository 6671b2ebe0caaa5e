mod Views
mod Left
mod Below
mod Built
mod Counted
pub mod Named
pub use Rattle.occ_syntax.proofs.from_base as from_base
pub use Rattle.occ_usage.proofs.from_meaning as from_meaning
pub use Rattle.occ_nform_table.proofs as from_nform_table
pub use Rattle.occ_usage.proofs as from_usage
