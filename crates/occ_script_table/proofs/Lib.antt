mod Scoped
mod Used
mod Walked
pub mod Named
pub mod Bases
pub mod Programs
pub mod Left
pub mod Whole
pub mod Numbers
pub mod Below
pub mod Settled
pub mod Reading
pub mod Parts
pub mod Scripts
pub use Rattle.occ_script_back.proofs.from_print_back as from_print_back
pub use Rattle.occ_script_back.proofs as from_script_back
