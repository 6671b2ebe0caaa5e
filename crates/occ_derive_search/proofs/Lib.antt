pub mod Stepping
pub mod Numbers
pub mod Taking
pub mod Coding
pub mod Deriving
pub mod Leading
pub mod Lists
pub mod CodeNumbers
pub mod Running
pub mod Typed
pub mod Counting
pub mod Ranking
pub mod Trying
pub use Rattle.occ_derive_moves.proofs as from_derive_moves
