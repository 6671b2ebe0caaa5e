pub mod Moves
pub mod Settled
pub mod Unified
pub mod Weight
pub mod Apart
pub mod Steps
pub use Rattle.occ_target_laws.specs.occ_behaviour as occ_behaviour
pub use Rattle.occ_replay_rules.specs.occ_meaning as occ_meaning
pub use Rattle.occ_target_laws.specs.occ_nform_table as occ_nform_table
pub use Rattle.occ_replay_rules.specs as occ_replay_rules
pub use Rattle.occ_replay_rules.specs.occ_script_lines as occ_script_lines
pub use Rattle.occ_target_laws.specs.occ_target as occ_target
pub use Rattle.occ_target_laws.specs as occ_target_laws
