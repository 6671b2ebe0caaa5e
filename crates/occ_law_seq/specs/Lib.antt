pub mod Assignment
pub mod Behind
pub mod Communication
pub mod Kept
pub mod Places
pub use Rattle.occ_law_shape.specs.occ_law as occ_law
pub use Rattle.occ_law_shape.specs as occ_law_shape
