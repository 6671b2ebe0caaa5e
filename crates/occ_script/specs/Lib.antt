pub mod Faults
pub mod Contents
pub mod Lines
pub mod Steps
pub mod Scripts
pub mod Refusals
pub mod Orders
pub mod Shown
pub use Rattle.occ_syntax.specs.occ_base as occ_base
pub use Rattle.occ_law.specs as occ_law
pub use Rattle.occ_script_lines.specs.occ_lex as occ_lex
pub use Rattle.occ_parse_part.specs.occ_parse as occ_parse
pub use Rattle.occ_parse_part.specs as occ_parse_part
pub use Rattle.occ_parse_part.specs.occ_parse_rules as occ_parse_rules
pub use Rattle.occ_parse_part.specs.occ_parse_unroll as occ_parse_unroll
pub use Rattle.occ_script_lines.specs as occ_script_lines
pub use Rattle.occ_syntax.specs as occ_syntax
