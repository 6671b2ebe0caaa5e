pub mod Changes
pub mod Places
pub use Rattle.occ_usage.specs.occ_meaning as occ_meaning
pub use Rattle.occ_usage.specs as occ_usage
