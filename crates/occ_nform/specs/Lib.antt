pub mod Numbering
pub mod Tabulated
pub mod Interface
pub mod Written
pub mod Lines
pub mod Counts
pub mod Counted
pub mod Tabled
unfoldable pub use Rattle.occ_nform_rows.specs.occ_nform_table.Texts.{param_text}
pub use Rattle.occ_syntax.specs.occ_base as occ_base
pub use Rattle.occ_nform_rows.specs.occ_behaviour as occ_behaviour
pub use Rattle.occ_nform_rows.specs.occ_nform_table as occ_nform_table
pub use Rattle.occ_syntax.specs as occ_syntax
