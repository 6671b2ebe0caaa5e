pub use Rattle.occ_script_write.proofs.from_lex as from_lex
