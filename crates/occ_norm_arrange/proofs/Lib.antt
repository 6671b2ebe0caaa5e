pub mod Listed
pub mod Itself
pub mod Noting
pub mod Ending
pub mod Leading
pub mod Splitting
pub mod StraightFlat
pub mod InTurn
pub mod LastPart
pub mod Elsewhere
pub mod Congruent
pub mod Reshaped
pub mod Spreading
pub mod FlatNoting
pub mod Alike
pub mod Orders
pub mod OwnNames
pub use Rattle.occ_meaning.proofs as from_meaning
