pub mod Behind
pub mod Exchanged
pub mod Few
pub mod Into
pub mod Orders
pub mod Pairs
pub mod Turns
pub mod Each
pub mod Holding
pub mod Keeping
pub mod Reordering
pub mod Rows
pub mod Within
pub mod Choices
pub mod Conditions
pub mod IfHolding
pub mod Connected
pub mod Declared
pub mod Elsewhere
pub mod Inputs
pub mod Opened
pub mod Renamed
pub mod Using
pub mod Values
pub use Rattle.occ_derive_moves.proofs as from_derive_moves
pub use Rattle.occ_renamed.proofs.from_meaning as from_meaning
pub use Rattle.occ_derive_moves.proofs.from_nform_table as from_nform_table
pub use Rattle.occ_renamed.proofs as from_renamed
pub use Rattle.occ_renamed.proofs.from_script_lines as from_script_lines
pub use Rattle.occ_renamed.proofs.from_syntax as from_syntax
pub use Rattle.occ_derive_moves.proofs.from_target_laws as from_target_laws
pub use Rattle.occ_renamed.proofs.from_usage as from_usage
