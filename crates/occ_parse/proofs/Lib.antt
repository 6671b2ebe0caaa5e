pub mod Once
mod Rows
pub mod Forests
mod Counting
pub mod Texts
pub mod Small
pub mod Knowing
pub mod Places
pub mod Faultless
pub mod Checked
pub mod Placed
pub mod Declared
pub use Rattle.occ_usage.proofs.from_names as from_names
pub use Rattle.occ_parse_layout.proofs as from_parse_layout
pub use Rattle.occ_parse_rules.proofs as from_parse_rules
pub use Rattle.occ_parse_unroll.proofs as from_parse_unroll
pub use Rattle.occ_usage.proofs as from_usage
