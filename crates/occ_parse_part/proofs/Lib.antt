mod Equal
mod Kept
pub mod Counted
mod Listed
pub mod Known
mod Laid
mod Scoped
mod Typed
pub mod Covered
mod Formed
mod Once
pub use Rattle.occ_parse_forms.proofs.from_lex as from_lex
pub use Rattle.occ_parse_rules.proofs.from_meaning as from_meaning
pub use Rattle.occ_parse.proofs as from_parse
pub use Rattle.occ_parse.proofs.from_parse_layout as from_parse_layout
pub use Rattle.occ_parse_rules.proofs as from_parse_rules
pub use Rattle.occ_parse.proofs.from_parse_unroll as from_parse_unroll
