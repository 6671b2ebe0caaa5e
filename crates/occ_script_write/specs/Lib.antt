pub mod Text
pub use Rattle.occ_syntax.specs.occ_base as occ_base
pub use Rattle.occ_law.specs.occ_bits as occ_bits
pub use Rattle.occ_law.specs as occ_law
pub use Rattle.occ_script_lines.specs.occ_lex as occ_lex
pub use Rattle.occ_law.specs.occ_meaning as occ_meaning
pub use Rattle.occ_script_lines.specs.occ_names as occ_names
pub use Rattle.occ_print.specs.occ_parse_forms as occ_parse_forms
pub use Rattle.occ_print.specs as occ_print
pub use Rattle.occ_script_lines.specs as occ_script_lines
pub use Rattle.occ_syntax.specs as occ_syntax
pub use Rattle.occ_script_lines.specs.occ_usage as occ_usage
