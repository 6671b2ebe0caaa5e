pub mod Programs
pub mod Accepted
pub use Rattle.occ_script.specs.occ_base as occ_base
pub use Rattle.occ_print_back.specs.occ_parse as occ_parse
pub use Rattle.occ_print_back.specs.occ_parse_unroll as occ_parse_unroll
pub use Rattle.occ_print_back.specs.occ_print as occ_print
pub use Rattle.occ_print_back.specs as occ_print_back
pub use Rattle.occ_script.specs.occ_script_lines as occ_script_lines
