pub mod Rows
pub mod Nodes
pub mod Levels
pub mod Graph
pub mod Final
pub mod Steps
pub mod Sorting
pub mod NumberTexts
pub mod Placing
pub mod Whole
mod Assignments
mod Programs
mod Apart
pub mod Written
pub mod Plain
mod Counting
mod Texts
mod Rooted
pub use Rattle.occ_syntax.proofs.from_base as from_base
pub use Rattle.occ_nform_rows.proofs.from_nform_table as from_nform_table
