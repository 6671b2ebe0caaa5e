pub mod View
pub mod Effects
pub mod Offers
pub mod Founds
pub mod Runs
pub mod Places
pub mod Configurations
pub mod Stands
pub mod Machines
pub mod Laws
pub mod MeetingRuns
pub mod Pairs
pub mod Tables
unfoldable pub use Rattle.occ_syntax.specs.View.{tree}
pub use Rattle.occ_behaviour.specs as occ_behaviour
pub use Rattle.occ_run_steps.specs.occ_meaning as occ_meaning
pub use Rattle.occ_usage.specs.occ_names as occ_names
pub use Rattle.occ_run_steps.specs as occ_run_steps
pub use Rattle.occ_usage.specs as occ_usage
