pub mod Files
pub mod Ran
pub use Rattle.occ_desk.specs as occ_desk
