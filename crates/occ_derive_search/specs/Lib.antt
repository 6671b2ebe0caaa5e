pub mod Derivations
pub mod Walking
pub mod Codes
pub mod Digits
pub mod Longer
pub mod Items
pub mod Piles
pub mod Seen
pub mod Attempts
pub mod Rows
unfoldable pub use Rattle.occ_syntax.specs.View.{tree}
pub use Rattle.occ_derive_moves.specs as occ_derive_moves
pub use Rattle.occ_engine.specs as occ_engine
pub use Rattle.occ_derive_moves.specs.occ_nform_table as occ_nform_table
pub use Rattle.occ_derive_moves.specs.occ_target as occ_target
