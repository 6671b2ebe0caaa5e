pub mod Lists
mod Branches
pub mod Following
pub mod Nodes
pub mod Anywhere
pub mod Alike
pub mod Finals
pub mod Unique
pub mod Initial
mod Declared
pub mod Bodies
pub mod Fresh
pub mod Groups
pub mod Grouping
mod Chosen
pub mod Made
pub mod Processes
pub mod Shaped
mod Acting
mod Ends
mod Whole
pub mod Reached
pub use Rattle.occ_target.proofs.from_nform_table as from_nform_table
pub use Rattle.occ_target.proofs.from_usage as from_usage
