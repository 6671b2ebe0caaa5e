pub mod First
pub mod Renamed
pub mod Exchanged
pub mod Front
pub mod Accepted
pub use Rattle.occ_engine_known.specs.occ_engine as occ_engine
pub use Rattle.occ_engine_known.specs as occ_engine_known
