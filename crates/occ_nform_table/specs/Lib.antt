pub mod Words
pub mod Lines
pub mod Reading
pub mod Judging
pub mod Normal
pub mod Texts
pub mod Tables
pub mod Behaviours
pub mod Rows
pub mod Lists
pub mod Alike
pub use Rattle.occ_behaviour.specs as occ_behaviour
pub use Rattle.occ_lex.specs as occ_lex
