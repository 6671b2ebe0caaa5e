pub mod Words
pub mod CommandLine
pub use Rattle.occ_gen.specs as occ_gen
pub use Rattle.occ_gen.specs.occ_parse as occ_parse
pub use Rattle.occ_gen.specs.occ_parse_unroll as occ_parse_unroll
pub use Rattle.occ_gen.specs.occ_print_back as occ_print_back
