pub use Rattle.occ_law.specs.occ_bits as occ_bits
pub use Rattle.occ_law.specs as occ_law
