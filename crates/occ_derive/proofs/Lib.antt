pub mod Below
pub mod Known
pub mod Targets
pub use Rattle.occ_script_back.proofs.from_lex.Growing.{grows_not, grows_on}
pub use Rattle.occ_derive_search.proofs.from_derive_moves as from_derive_moves
pub use Rattle.occ_script_back.proofs as from_script_back
