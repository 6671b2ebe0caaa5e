pub mod Arranged
pub mod Straight
pub mod Notes
pub mod Split
pub mod Flat
pub mod FlatArranged
pub mod Declares
pub mod Spread
unfoldable pub use Rattle.occ_syntax.specs.View.{tree}
pub use Rattle.occ_meaning.specs as occ_meaning
