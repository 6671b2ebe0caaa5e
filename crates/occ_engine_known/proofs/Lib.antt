mod Applying
mod Chains
mod Expanding
mod Following
mod Direct
pub mod Keeping
pub mod Putting
mod Moving
mod Standing
pub mod Given
pub use Rattle.occ_engine.proofs.from_base as from_base
pub use Rattle.occ_engine.proofs.from_script as from_script
