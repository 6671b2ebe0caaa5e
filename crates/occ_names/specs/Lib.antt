pub mod Once
pub mod Mentions
pub mod Captures
unfoldable pub use Rattle.occ_syntax.specs.View.{tree}
pub use Rattle.occ_meaning.specs as occ_meaning
