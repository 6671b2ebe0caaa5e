pub mod Elements
pub mod Arrays
pub mod Parts
pub mod Resolving
pub mod Seen
pub mod Shown
pub use Rattle.occ_parse_forms.specs.occ_lex as occ_lex
pub use Rattle.occ_parse_rules.specs.occ_meaning as occ_meaning
pub use Rattle.occ_parse.specs as occ_parse
pub use Rattle.occ_parse.specs.occ_parse_layout as occ_parse_layout
pub use Rattle.occ_parse_rules.specs as occ_parse_rules
pub use Rattle.occ_parse.specs.occ_parse_unroll as occ_parse_unroll
