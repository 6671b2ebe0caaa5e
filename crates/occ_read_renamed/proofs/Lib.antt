pub mod Numbers
pub mod Rows
pub mod Laid
pub mod Outlines
pub mod Tables
pub mod Programs
pub mod Refused
pub mod Exchanges
pub mod Bounds
pub mod RenamedTables
pub mod Standing
pub mod Texts
pub mod Meaning
pub mod Headers
pub mod TableNumbers
pub mod Again
mod Header
mod Named
mod Params
pub mod Whole
pub use Rattle.occ_renamed.proofs as from_renamed
pub use Rattle.occ_script_table.proofs as from_script_table
