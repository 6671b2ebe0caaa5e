mod Apart
mod Basics
mod Chains
mod Complete
mod Cutting
mod Declarations
mod Distinct
mod Forms
mod Fronts
mod Lists
mod SoundExpressions
mod SoundItems
mod Splitting
mod Statements
pub use Rattle.occ_lex.proofs as from_lex
