mod Cutting
mod Numerals
mod Saying
mod Bodies
mod Scripts
pub mod Staying
mod Steps
mod OneByOne
mod Programs
pub mod Formed
mod Whole
pub mod Known
mod Narrow
mod Joining
mod Written
pub mod Growing
mod Agreeing
mod LaidWell
mod Elements
mod Bases
pub mod Reading
mod Parts
pub mod Blank
pub mod Framed
pub mod Small
pub mod Within
pub mod Behind
pub use Rattle.occ_script_write.proofs.from_base as from_base
pub use Rattle.occ_script_write.proofs.from_lex as from_lex
pub use Rattle.occ_script_write.proofs.from_meaning as from_meaning
pub use Rattle.occ_print_back.proofs.from_parse as from_parse
pub use Rattle.occ_print_back.proofs.from_parse_layout as from_parse_layout
pub use Rattle.occ_script.proofs.from_parse_part as from_parse_part
pub use Rattle.occ_print_back.proofs.from_parse_rules as from_parse_rules
pub use Rattle.occ_print_back.proofs.from_parse_unroll as from_parse_unroll
pub use Rattle.occ_script_write.proofs.from_print as from_print
pub use Rattle.occ_print_back.proofs as from_print_back
pub use Rattle.occ_script.proofs as from_script
pub use Rattle.occ_script_write.proofs.from_script_lines as from_script_lines
pub use Rattle.occ_script_write.proofs.from_usage as from_usage
