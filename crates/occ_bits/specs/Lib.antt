pub mod Circuits
pub mod Layout
pub mod Named
pub mod Words
pub mod Digits
pub use Rattle.occ_dd.specs.occ_base as occ_base
pub use Rattle.occ_dd.specs as occ_dd
pub use Rattle.occ_meaning.specs as occ_meaning
pub use Rattle.occ_syntax.specs as occ_syntax
