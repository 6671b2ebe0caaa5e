pub mod Fronts
pub mod Lacking
pub mod Places
pub mod Parted
pub use Rattle.occ_law_shape.specs.occ_law as occ_law
pub use Rattle.occ_law_shape.specs as occ_law_shape
