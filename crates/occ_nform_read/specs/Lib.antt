pub mod Marks
pub mod Walk
pub mod Found
unfoldable pub use Rattle.occ_nform_table.specs.occ_lex.Spelling.{is_numeral}
pub use Rattle.occ_nform_table.specs.occ_lex as occ_lex
pub use Rattle.occ_nform_table.specs as occ_nform_table
