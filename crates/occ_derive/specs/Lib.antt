pub mod Derived
pub use Rattle.occ_derive_search.specs.occ_derive_moves as occ_derive_moves
pub use Rattle.occ_derive_search.specs as occ_derive_search
pub use Rattle.occ_script_back.specs as occ_script_back
pub use Rattle.occ_script_back.specs.occ_script_write as occ_script_write
pub use Rattle.occ_derive_search.specs.occ_target as occ_target
