pub mod Tables
pub mod Reached
pub use Rattle.occ_script_back.specs.occ_print_back as occ_print_back
pub use Rattle.occ_script_back.specs as occ_script_back
