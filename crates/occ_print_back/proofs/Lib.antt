pub mod Widths
pub mod Standing
pub mod Phrases
pub mod Forms
pub mod Tokens
pub mod Spacing
pub mod Rows
pub mod Saying
pub mod Laying
pub mod Programs
pub mod Clashing
pub mod Ordering
pub mod Stable
pub mod Counted
pub mod Backs
mod Served
mod Levels
pub mod Read
pub use Rattle.occ_parse.proofs.from_names as from_names
pub use Rattle.occ_parse.proofs as from_parse
pub use Rattle.occ_parse.proofs.from_parse_layout as from_parse_layout
pub use Rattle.occ_parse.proofs.from_parse_rules as from_parse_rules
pub use Rattle.occ_parse.proofs.from_parse_unroll as from_parse_unroll
pub use Rattle.occ_parse.proofs.from_usage as from_usage
