pub mod Changing
pub mod Following
pub use Rattle.occ_script.proofs.from_lex as from_lex
pub use Rattle.occ_replay_rules.proofs.from_print as from_print
