mod Stepping
mod Named
mod Showing
mod One
pub mod Places
pub mod Arriving
pub mod Noting
pub mod Scanning
pub mod Deciding
pub mod Tracing
pub mod Written
pub mod WitnessShowing
pub mod Telling
pub mod Inside
pub use Rattle.occ_run.proofs.from_meaning as from_meaning
pub use Rattle.occ_behaviour_read.proofs.from_nform_table as from_nform_table
pub use Rattle.occ_run.proofs as from_run
pub use Rattle.occ_run.proofs.from_usage as from_usage
