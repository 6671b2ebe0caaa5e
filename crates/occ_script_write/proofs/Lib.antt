pub use Rattle.occ_syntax.proofs.from_base as from_base
pub use Rattle.occ_law.proofs.from_bits as from_bits
pub use Rattle.occ_script_lines.proofs.from_lex as from_lex
pub use Rattle.occ_law.proofs.from_meaning as from_meaning
pub use Rattle.occ_script_lines.proofs.from_names as from_names
pub use Rattle.occ_print.proofs as from_print
pub use Rattle.occ_script_lines.proofs as from_script_lines
pub use Rattle.occ_script_lines.proofs.from_usage as from_usage
