pub mod Limits
pub mod Drafts
pub mod Reading
pub mod Laying
pub mod Known
pub use Rattle.occ_usage.specs.occ_names as occ_names
pub use Rattle.occ_parse_layout.specs as occ_parse_layout
pub use Rattle.occ_parse_rules.specs as occ_parse_rules
pub use Rattle.occ_parse_types.specs as occ_parse_types
pub use Rattle.occ_parse_unroll.specs as occ_parse_unroll
pub use Rattle.occ_usage.specs as occ_usage
