pub mod Begun
pub mod Cancelled
pub mod Cased
pub mod Ended
pub mod Lacked
pub mod Sought
pub mod Stands
pub mod Tabled
pub mod Tests
pub mod Without
pub mod Making
pub mod Onlys
pub mod Parting
pub mod Pieces
pub mod RightTabled
pub use Rattle.occ_law_shape.proofs as from_law_shape
