pub mod Shown
pub use Rattle.occ_run.specs.occ_behaviour as occ_behaviour
pub use Rattle.occ_run.specs as occ_run
pub use Rattle.occ_run_schedule.specs as occ_run_schedule
pub use Rattle.occ_syntax.specs as occ_syntax
