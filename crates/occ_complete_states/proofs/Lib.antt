pub mod Fresh
pub mod Leading
pub mod Pointwise
pub mod Rows
pub mod Scopes
pub mod Nowhere
pub mod Beginning
pub mod Ending
pub mod Facts
pub mod Taking
pub mod Telling
pub mod Evaluating
pub mod Opening
pub mod Turning
pub mod Given
pub mod GivenTelling
pub mod Values
pub use Rattle.occ_derive_laws.proofs as from_derive_laws
pub use Rattle.occ_derive_laws.proofs.from_derive_moves as from_derive_moves
pub use Rattle.occ_derive_laws.proofs.from_nform_table as from_nform_table
pub use Rattle.occ_derive_laws.proofs.from_renamed as from_renamed
pub use Rattle.occ_derive_laws.proofs.from_target_laws as from_target_laws
