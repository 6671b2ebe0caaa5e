pub mod Forest
pub mod Places
pub mod Judging
pub mod Names
pub mod Types
pub mod Limits
pub mod Unrolled
pub mod Sound
pub mod Agreement
pub mod Scoped
pub mod InOrder
pub mod Programs
pub mod Passing
pub use Rattle.occ_meaning.specs.occ_base as occ_base
pub use Rattle.occ_parse_forms.specs.occ_lex as occ_lex
pub use Rattle.occ_meaning.specs as occ_meaning
pub use Rattle.occ_parse_forms.specs as occ_parse_forms
