pub mod Shapes
pub mod Bodies
pub mod Whole
pub use Rattle.occ_target.specs.occ_base as occ_base
pub use Rattle.occ_target.specs.occ_behaviour as occ_behaviour
pub use Rattle.occ_target.specs.occ_nform_table as occ_nform_table
pub use Rattle.occ_target.specs.occ_syntax as occ_syntax
pub use Rattle.occ_target.specs as occ_target
pub use Rattle.occ_target.specs.occ_usage as occ_usage
