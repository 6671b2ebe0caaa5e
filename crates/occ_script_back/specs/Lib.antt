pub mod Said
pub mod Chunks
pub mod Steps
pub mod Staying
pub mod Reads
pub mod Programs
pub mod Whole
pub mod Joined
pub mod Tables
pub mod Part
pub mod Back
pub mod Blank
pub mod Limits
pub use Rattle.occ_script_write.specs.occ_base as occ_base
pub use Rattle.occ_script_write.specs.occ_lex as occ_lex
pub use Rattle.occ_print_back.specs.occ_parse as occ_parse
pub use Rattle.occ_script_write.specs.occ_parse_forms as occ_parse_forms
pub use Rattle.occ_print_back.specs.occ_parse_layout as occ_parse_layout
pub use Rattle.occ_script.specs.occ_parse_part as occ_parse_part
pub use Rattle.occ_print_back.specs.occ_parse_rules as occ_parse_rules
pub use Rattle.occ_print_back.specs.occ_parse_unroll as occ_parse_unroll
pub use Rattle.occ_script_write.specs.occ_print as occ_print
pub use Rattle.occ_print_back.specs as occ_print_back
pub use Rattle.occ_script.specs as occ_script
pub use Rattle.occ_script_write.specs.occ_script_lines as occ_script_lines
pub use Rattle.occ_script_write.specs as occ_script_write
pub use Rattle.occ_script_write.specs.occ_syntax as occ_syntax
