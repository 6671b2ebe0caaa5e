pub mod Chosen
pub mod Combined
pub mod Maps
pub mod Met
pub mod Value
pub use Rattle.occ_dd.specs as occ_dd
