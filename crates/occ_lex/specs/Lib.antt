pub mod Gives
pub mod Placed
pub mod Printed
pub mod Rows
pub mod Scan
pub mod Spelling
pub mod Token
pub mod Tokens
pub mod Words
pub mod Symbols
pub mod SymbolWords
pub mod Growth
pub use Rattle.occ_base.specs as occ_base
