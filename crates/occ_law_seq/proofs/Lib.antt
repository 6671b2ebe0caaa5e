pub mod Among
pub mod Assigning
pub mod Communicating
pub mod EqualSides
pub mod Followers
pub mod Here
pub mod Ordering
pub mod Placed
pub mod Simple
pub mod Tabled
pub use Rattle.occ_law_shape.proofs.from_law as from_law
pub use Rattle.occ_law_shape.proofs as from_law_shape
