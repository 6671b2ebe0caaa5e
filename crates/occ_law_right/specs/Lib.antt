pub mod Chosen
pub mod Communication
pub mod Where
unfoldable pub use Rattle.occ_syntax.specs.View.{tree}
