pub mod Gives
pub mod Lines
pub mod Reading
pub mod Shape
pub mod Symbols
pub mod Written
pub use Rattle.occ_lex.specs as occ_lex
