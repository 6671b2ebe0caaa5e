pub mod Lists
pub mod Channels
pub mod Bodies
pub mod RunTogether
pub mod Sizes
pub mod Rows
pub mod Walks
pub mod Beginning
pub mod Fronts
pub mod Led
pub mod Interfaces
pub mod Standing
pub mod Points
pub mod States
pub mod Applying
pub mod Refusing
pub mod Listing
pub mod Listed
pub mod Founds
pub mod Meetings
pub mod Unseen
pub mod Processes
pub mod Running
pub mod Pairing
pub mod Joining
pub mod Holding
pub mod MeetingFronts
pub mod MeetingPairs
pub mod Passing
pub mod MeetingPairing
pub mod Adding
pub mod Tables
pub mod Behind
pub use Rattle.occ_run_steps.proofs.from_meaning as from_meaning
pub use Rattle.occ_run_steps.proofs as from_run_steps
pub use Rattle.occ_usage.proofs as from_usage
