pub mod Again
pub mod Judged
pub mod Ordered
pub mod Texts
pub mod Grown
pub mod Few
pub mod Listed
pub mod Once
pub mod OnceAll
pub mod OnceTexts
pub mod OnceOrders
pub use Rattle.occ_syntax.proofs.from_base as from_base
pub use Rattle.occ_script_lines.proofs.from_lex as from_lex
pub use Rattle.occ_parse_part.proofs.from_parse as from_parse
pub use Rattle.occ_parse_part.proofs as from_parse_part
pub use Rattle.occ_script_lines.proofs as from_script_lines
