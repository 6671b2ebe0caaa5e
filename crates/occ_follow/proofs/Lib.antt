pub mod Continuing
pub mod Uniting
pub mod Assembling
pub mod Growing
pub use Rattle.occ_choice.proofs.from_node as from_node
pub use Rattle.occ_scope.proofs as from_scope
