pub mod Texts
pub mod Places
pub mod Laws
pub mod Putting
pub mod Lines
pub mod Heads
pub mod Sections
pub mod Left
unfoldable pub use Rattle.occ_syntax.specs.View.{tree}
pub use Rattle.occ_lex.specs as occ_lex
pub use Rattle.occ_usage.specs.occ_names as occ_names
pub use Rattle.occ_usage.specs as occ_usage
