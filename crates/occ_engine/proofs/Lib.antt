pub mod Putting
pub mod Taking
pub mod Leading
pub mod Ranging
pub mod Keeping
pub mod Reaching
pub mod Expanding
pub mod Granting
pub use Rattle.occ_syntax.proofs.from_base as from_base
pub use Rattle.occ_script_write.proofs.from_bits as from_bits
pub use Rattle.occ_law_any.proofs.from_law_shape as from_law_shape
pub use Rattle.occ_replay_rules.proofs.from_law_sound as from_law_sound
pub use Rattle.occ_script_write.proofs.from_lex as from_lex
pub use Rattle.occ_script_write.proofs.from_meaning as from_meaning
pub use Rattle.occ_script.proofs.from_parse as from_parse
pub use Rattle.occ_script.proofs.from_parse_part as from_parse_part
pub use Rattle.occ_replay_rules.proofs as from_replay_rules
pub use Rattle.occ_script.proofs as from_script
pub use Rattle.occ_script_write.proofs.from_script_lines as from_script_lines
pub use Rattle.occ_syntax.proofs as from_syntax
pub use Rattle.occ_law_any.proofs.from_usage as from_usage
