pub mod Exact
pub mod Offers
pub mod Rows
pub mod World
pub mod Canonical
pub use Rattle.occ_accept.specs as occ_accept
pub use Rattle.occ_accept.specs.occ_base as occ_base
pub use Rattle.occ_mdd.specs.occ_dd as occ_dd
pub use Rattle.occ_mdd.specs as occ_mdd
pub use Rattle.occ_syntax.specs as occ_syntax
