pub mod Reading
pub mod Sizes
pub mod Bits
pub mod Numbers
pub mod Known
pub mod Present
pub mod Guards
pub mod Elements
unfoldable pub use Rattle.occ_syntax.specs.View.{tree}
