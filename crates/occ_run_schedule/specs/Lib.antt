pub mod Schedules
pub mod Following
pub mod Texts
pub mod Marks
pub mod WitnessTexts
pub mod Witnesses
pub use Rattle.occ_run.specs.occ_behaviour as occ_behaviour
pub use Rattle.occ_behaviour_read.specs as occ_behaviour_read
pub use Rattle.occ_behaviour_read.specs.occ_compare as occ_compare
pub use Rattle.occ_run.specs.occ_meaning as occ_meaning
pub use Rattle.occ_run.specs.occ_names as occ_names
pub use Rattle.occ_behaviour_read.specs.occ_nform_table as occ_nform_table
pub use Rattle.occ_run.specs.occ_usage as occ_usage
