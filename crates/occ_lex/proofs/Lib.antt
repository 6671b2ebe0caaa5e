pub mod Classes
pub mod Longest
pub mod Numerals
pub mod Placing
pub mod Printing
pub mod RowLemmas
pub mod TokenLemmas
pub mod WordLemmas
pub mod Interned
pub mod Placed
pub mod Tables
pub mod Growing
pub mod Spelled
pub mod FreshNumerals
pub mod FreshPlaced
pub use Rattle.occ_base.proofs as from_base
