pub mod Scopes
pub mod Here
pub mod Elements
pub mod Lines
pub mod Forms
pub mod Faults
pub mod Names
pub mod Usage
mod Composed
mod Lists
pub mod States
mod Sequence
mod Choice
mod Parallel
mod Scope
pub mod Laws
mod Places
mod Symbols
pub mod ScriptLines
pub mod Texts
pub mod Moving
pub use Rattle.occ_replay_rules.proofs.from_lex as from_lex
pub use Rattle.occ_replay_rules.proofs.from_meaning as from_meaning
pub use Rattle.occ_replay_rules.proofs.from_parse as from_parse
pub use Rattle.occ_replay_rules.proofs.from_parse_layout as from_parse_layout
pub use Rattle.occ_replay_rules.proofs.from_parse_part as from_parse_part
pub use Rattle.occ_replay_rules.proofs.from_parse_rules as from_parse_rules
pub use Rattle.occ_replay_rules.proofs.from_parse_unroll as from_parse_unroll
pub use Rattle.occ_replay_rules.proofs.from_print as from_print
pub use Rattle.occ_replay_rules.proofs.from_script_lines as from_script_lines
pub use Rattle.occ_replay_rules.proofs.from_syntax as from_syntax
pub use Rattle.occ_replay_rules.proofs.from_usage as from_usage
