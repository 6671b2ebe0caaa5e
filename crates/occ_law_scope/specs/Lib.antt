pub mod Under
pub mod Turns
pub mod Moves
pub mod Values
pub mod Pairs
pub mod Input
pub use Rattle.occ_names.specs.occ_meaning as occ_meaning
