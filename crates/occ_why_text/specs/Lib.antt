pub use Rattle.occ_syntax.specs.occ_base as occ_base
pub use Rattle.occ_syntax.specs as occ_syntax
