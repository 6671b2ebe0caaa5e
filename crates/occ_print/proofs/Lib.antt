pub mod Lists
pub mod Texts
pub mod Naming
pub mod Parts
pub mod Counting
pub mod Declaring
pub mod Bounded
pub use Rattle.occ_syntax.proofs.from_base as from_base
pub use Rattle.occ_parse_forms.proofs.from_lex as from_lex
pub use Rattle.occ_syntax.proofs as from_syntax
