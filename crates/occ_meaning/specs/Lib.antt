pub mod Bound
pub mod Context
pub mod Foundation
pub mod Parallel
pub mod Rename
pub mod Substitution
pub use Rattle.occ_syntax.specs.occ_base as occ_base
pub use Rattle.occ_syntax.specs as occ_syntax
