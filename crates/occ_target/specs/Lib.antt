pub mod Inputs
pub mod States
pub mod Rows
pub mod Framed
pub mod Program
pub mod Sizes
pub mod Refused
unfoldable pub use Rattle.occ_syntax.specs.View.{tree}
pub use Rattle.occ_syntax.specs.occ_base as occ_base
pub use Rattle.occ_nform_table.specs.occ_behaviour as occ_behaviour
pub use Rattle.occ_nform_table.specs as occ_nform_table
pub use Rattle.occ_syntax.specs as occ_syntax
pub use Rattle.occ_usage.specs as occ_usage
