pub mod Leaves
pub mod Parsing
pub mod Numerals
pub use Rattle.occ_gen.proofs.from_parse_unroll as from_parse_unroll
