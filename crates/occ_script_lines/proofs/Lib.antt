pub mod Numerals
pub mod Pieces
pub mod Children
pub mod Scoping
pub mod Exchanges
pub mod Placing
pub mod Rows
pub mod Divided
pub mod Words
pub mod Blank
pub use Rattle.occ_lex.proofs as from_lex
pub use Rattle.occ_usage.proofs.from_names as from_names
pub use Rattle.occ_usage.proofs as from_usage
