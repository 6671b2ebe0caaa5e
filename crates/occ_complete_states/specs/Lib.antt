pub mod Configured
pub mod Few
pub mod Headers
pub mod Heads
pub mod Leads
pub mod Nodes
pub mod Rows
pub mod States
pub mod Ways
pub mod Telling
pub mod GuardTelling
pub use Rattle.occ_derive_laws.specs.occ_behaviour as occ_behaviour
pub use Rattle.occ_derive_laws.specs as occ_derive_laws
pub use Rattle.occ_derive_laws.specs.occ_derive_moves as occ_derive_moves
pub use Rattle.occ_derive_laws.specs.occ_nform_table as occ_nform_table
pub use Rattle.occ_derive_laws.specs.occ_renamed as occ_renamed
pub use Rattle.occ_derive_laws.specs.occ_target as occ_target
pub use Rattle.occ_derive_laws.specs.occ_target_laws as occ_target_laws
