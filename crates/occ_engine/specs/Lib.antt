pub mod Applied
pub mod Exchanged
pub mod Resolved
pub mod Moved
pub mod Outcomes
pub mod Wishes
pub mod Granted
pub mod Followed
unfoldable pub use Rattle.occ_syntax.specs.View.{tree}
pub use Rattle.occ_syntax.specs.occ_base as occ_base
pub use Rattle.occ_script_write.specs.occ_bits as occ_bits
pub use Rattle.occ_script_write.specs.occ_law as occ_law
pub use Rattle.occ_script_write.specs.occ_lex as occ_lex
pub use Rattle.occ_script_write.specs.occ_meaning as occ_meaning
pub use Rattle.occ_script.specs.occ_parse as occ_parse
pub use Rattle.occ_script_write.specs.occ_parse_forms as occ_parse_forms
pub use Rattle.occ_script.specs.occ_parse_part as occ_parse_part
pub use Rattle.occ_script.specs.occ_parse_rules as occ_parse_rules
pub use Rattle.occ_script.specs.occ_parse_unroll as occ_parse_unroll
pub use Rattle.occ_script_write.specs.occ_print as occ_print
pub use Rattle.occ_replay_rules.specs as occ_replay_rules
pub use Rattle.occ_script.specs as occ_script
pub use Rattle.occ_script_write.specs.occ_script_lines as occ_script_lines
pub use Rattle.occ_script_write.specs as occ_script_write
pub use Rattle.occ_syntax.specs as occ_syntax
pub use Rattle.occ_law_any.specs.occ_usage as occ_usage
