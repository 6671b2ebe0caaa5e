pub mod Traces
pub mod Made
pub mod Marks
pub mod Gaps
pub mod Roots
pub mod Choices
pub mod Choosers
pub use Rattle.occ_refine.specs.occ_compare as occ_compare
