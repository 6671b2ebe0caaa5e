pub mod Ends
pub mod Listed
pub mod Lists
pub use Rattle.occ_compare.specs.occ_accept as occ_accept
pub use Rattle.occ_nform_table.specs.occ_behaviour as occ_behaviour
pub use Rattle.occ_compare.specs.occ_bits as occ_bits
pub use Rattle.occ_compare.specs as occ_compare
pub use Rattle.occ_compare.specs.occ_dd as occ_dd
pub use Rattle.occ_nform_table.specs.occ_lex as occ_lex
pub use Rattle.occ_compare.specs.occ_mdd as occ_mdd
pub use Rattle.occ_compare.specs.occ_meaning as occ_meaning
pub use Rattle.occ_nform_table.specs as occ_nform_table
pub use Rattle.occ_compare.specs.occ_node as occ_node
