pub mod Symbols
pub mod Lines
pub mod Spelled
pub mod Known
pub mod Levels
pub mod Greatest
unfoldable pub use Rattle.occ_syntax.specs.View.{tree}
pub use Rattle.occ_syntax.specs.occ_base as occ_base
pub use Rattle.occ_parse_forms.specs.occ_lex as occ_lex
pub use Rattle.occ_parse_forms.specs as occ_parse_forms
pub use Rattle.occ_syntax.specs as occ_syntax
