pub mod Claims
pub mod Stops
pub mod Behaviours
pub mod Tables
pub use Rattle.occ_compare.specs as occ_compare
pub use Rattle.occ_compare.specs.occ_dd as occ_dd
pub use Rattle.occ_nform_read.specs.occ_lex as occ_lex
pub use Rattle.occ_nform_read.specs.occ_nform_table as occ_nform_table
