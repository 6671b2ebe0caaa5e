pub mod Said
pub mod Forest
pub mod Scoped
pub mod Read
pub mod Formed
pub mod Placed
pub mod Program
pub mod Back
pub use Rattle.occ_parse.specs.occ_names as occ_names
pub use Rattle.occ_parse.specs as occ_parse
pub use Rattle.occ_print.specs.occ_parse_forms as occ_parse_forms
pub use Rattle.occ_parse.specs.occ_parse_layout as occ_parse_layout
pub use Rattle.occ_parse.specs.occ_parse_rules as occ_parse_rules
pub use Rattle.occ_parse.specs.occ_parse_unroll as occ_parse_unroll
pub use Rattle.occ_print.specs as occ_print
pub use Rattle.occ_parse.specs.occ_usage as occ_usage
