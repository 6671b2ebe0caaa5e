pub mod Counting
pub mod Stating
pub mod Lists
pub mod Stops
pub mod BareTexts
pub mod Written
pub mod ReadTexts
pub mod Claiming
pub mod Headers
pub mod Params
pub mod Local
pub mod Fronts
pub mod Tabling
pub mod Standing
pub use Rattle.occ_compare.proofs.from_dd as from_dd
pub use Rattle.occ_nform_read.proofs.from_nform_table as from_nform_table
