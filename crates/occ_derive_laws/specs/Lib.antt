pub mod Alike
pub mod Passing
pub use Rattle.occ_renamed.specs.occ_base as occ_base
pub use Rattle.occ_derive_moves.specs.occ_behaviour as occ_behaviour
pub use Rattle.occ_renamed.specs.occ_bits as occ_bits
pub use Rattle.occ_derive_moves.specs as occ_derive_moves
pub use Rattle.occ_renamed.specs.occ_law as occ_law
pub use Rattle.occ_renamed.specs.occ_meaning as occ_meaning
pub use Rattle.occ_derive_moves.specs.occ_nform_table as occ_nform_table
pub use Rattle.occ_renamed.specs as occ_renamed
pub use Rattle.occ_renamed.specs.occ_replay_rules as occ_replay_rules
pub use Rattle.occ_renamed.specs.occ_script_lines as occ_script_lines
pub use Rattle.occ_renamed.specs.occ_syntax as occ_syntax
pub use Rattle.occ_derive_moves.specs.occ_target as occ_target
pub use Rattle.occ_derive_moves.specs.occ_target_laws as occ_target_laws
pub use Rattle.occ_renamed.specs.occ_usage as occ_usage
