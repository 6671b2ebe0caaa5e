pub mod Table
pub mod Numbers
pub mod Lists
pub mod States
pub mod Sequence
pub mod Choice
pub mod Parallel
pub mod Scope
pub mod RuleTable
pub mod Instances
pub use Rattle.occ_bits.specs.occ_base as occ_base
pub use Rattle.occ_bits.specs as occ_bits
pub use Rattle.occ_bits.specs.occ_meaning as occ_meaning
pub use Rattle.occ_bits.specs.occ_syntax as occ_syntax
