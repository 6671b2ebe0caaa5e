pub mod Readings
pub mod Read
pub use Rattle.occ_nform.specs as occ_nform
pub use Rattle.occ_renamed.specs as occ_renamed
