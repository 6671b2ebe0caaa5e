mod Faults
mod Ranks
mod Names
mod Rows
mod Marking
pub mod Numerals
pub mod Splitting
pub mod Rising
pub mod Taking
pub mod Steps
pub mod Interfaces
pub mod Forms
pub mod WholeText
pub use Rattle.occ_nform_table.proofs.from_lex as from_lex
pub use Rattle.occ_nform_table.proofs as from_nform_table
