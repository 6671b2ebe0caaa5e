pub mod Known
pub mod Given
pub use Rattle.occ_engine.specs.occ_base as occ_base
pub use Rattle.occ_engine.specs as occ_engine
pub use Rattle.occ_engine.specs.occ_script as occ_script
pub use Rattle.occ_engine.specs.occ_script_write as occ_script_write
pub use Rattle.occ_engine.specs.occ_syntax as occ_syntax
