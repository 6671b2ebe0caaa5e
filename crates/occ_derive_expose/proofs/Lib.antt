pub use Rattle.occ_derive_trail.proofs.from_lex.Growing.{grows_not, grows_on}
