pub use Rattle.occ_script_write.specs.occ_lex as occ_lex
