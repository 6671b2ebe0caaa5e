pub mod Writes
pub mod Written
pub mod Transfer
pub mod Lists
unfoldable pub use Rattle.occ_syntax.specs.View.{tree}
pub use Rattle.occ_norm_arrange.specs as occ_norm_arrange
