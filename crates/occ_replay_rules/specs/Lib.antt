pub mod Steps
pub mod Replays
pub mod Moves
pub mod Orders
pub mod Expansion
pub use Rattle.occ_print.specs.occ_base as occ_base
pub use Rattle.occ_law_sound.specs.occ_bits as occ_bits
pub use Rattle.occ_law_sound.specs.occ_law as occ_law
pub use Rattle.occ_script_lines.specs.occ_lex as occ_lex
pub use Rattle.occ_parse_part.specs.occ_meaning as occ_meaning
pub use Rattle.occ_parse_part.specs.occ_parse as occ_parse
pub use Rattle.occ_print.specs.occ_parse_forms as occ_parse_forms
pub use Rattle.occ_parse_part.specs.occ_parse_layout as occ_parse_layout
pub use Rattle.occ_parse_part.specs as occ_parse_part
pub use Rattle.occ_parse_part.specs.occ_parse_rules as occ_parse_rules
pub use Rattle.occ_parse_part.specs.occ_parse_unroll as occ_parse_unroll
pub use Rattle.occ_print.specs as occ_print
pub use Rattle.occ_script_lines.specs as occ_script_lines
pub use Rattle.occ_print.specs.occ_syntax as occ_syntax
pub use Rattle.occ_script_lines.specs.occ_usage as occ_usage
