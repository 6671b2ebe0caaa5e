pub mod Expand
pub mod Order
pub mod Pairs
pub mod Places
pub mod Parts
pub mod Made
unfoldable pub use Rattle.occ_syntax.specs.View.{tree}
