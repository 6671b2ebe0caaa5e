pub mod Changes
pub mod Scripts
pub use Rattle.occ_script.specs.occ_law as occ_law
pub use Rattle.occ_script.specs.occ_lex as occ_lex
pub use Rattle.occ_script.specs.occ_parse_part as occ_parse_part
pub use Rattle.occ_script.specs.occ_parse_rules as occ_parse_rules
pub use Rattle.occ_replay_rules.specs.occ_print as occ_print
pub use Rattle.occ_replay_rules.specs as occ_replay_rules
pub use Rattle.occ_script.specs as occ_script
pub use Rattle.occ_script.specs.occ_script_lines as occ_script_lines
