pub mod Tree
pub mod View
pub mod Scopes
pub mod Eval
pub mod Types
pub mod Names
pub mod Usage
pub mod Meaning
pub mod Same
pub mod Counts
pub mod Declarations
pub mod Headers
pub use Rattle.occ_base.specs as occ_base
