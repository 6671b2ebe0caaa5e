pub mod Form
pub mod Lists
pub mod Places
pub mod Pieces
pub mod Answer
pub mod Conditions
pub mod Types
unfoldable pub use Rattle.occ_syntax.specs.View.{tree}
pub use Rattle.occ_law.specs.occ_bits as occ_bits
pub use Rattle.occ_law.specs as occ_law
pub use Rattle.occ_law.specs.occ_meaning as occ_meaning
