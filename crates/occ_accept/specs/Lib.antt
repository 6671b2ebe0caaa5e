pub mod Order
pub mod Accept
pub use Rattle.occ_base.specs as occ_base
