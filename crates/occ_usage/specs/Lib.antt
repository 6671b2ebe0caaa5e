pub mod Faults
pub mod Sharing
pub mod Accepted
pub mod Checked
pub mod Typed
pub mod Local
unfoldable pub use Rattle.occ_syntax.specs.View.{tree}
pub use Rattle.occ_names.specs.occ_meaning as occ_meaning
pub use Rattle.occ_names.specs as occ_names
