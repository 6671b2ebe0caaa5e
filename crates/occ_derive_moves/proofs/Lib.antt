pub mod Children
pub mod Keeping
pub mod Lifting
pub mod Steps
pub use Rattle.occ_replay_rules.proofs.from_meaning as from_meaning
pub use Rattle.occ_target_laws.proofs.from_nform_table as from_nform_table
pub use Rattle.occ_replay_rules.proofs as from_replay_rules
pub use Rattle.occ_replay_rules.proofs.from_script_lines as from_script_lines
pub use Rattle.occ_target_laws.proofs as from_target_laws
