pub mod Numbers
pub mod Deriving
pub mod Stopping
pub mod Answering
pub mod Moving
pub use Rattle.occ_law_sound.proofs as from_law_sound
pub use Rattle.occ_script_lines.proofs.from_lex as from_lex
pub use Rattle.occ_parse_part.proofs.from_meaning as from_meaning
pub use Rattle.occ_parse_part.proofs.from_parse as from_parse
pub use Rattle.occ_parse_part.proofs.from_parse_layout as from_parse_layout
pub use Rattle.occ_parse_part.proofs as from_parse_part
pub use Rattle.occ_parse_part.proofs.from_parse_rules as from_parse_rules
pub use Rattle.occ_parse_part.proofs.from_parse_unroll as from_parse_unroll
pub use Rattle.occ_print.proofs as from_print
pub use Rattle.occ_script_lines.proofs as from_script_lines
pub use Rattle.occ_print.proofs.from_syntax as from_syntax
pub use Rattle.occ_script_lines.proofs.from_usage as from_usage
