pub mod Desk
pub mod MemoryDesk
pub mod RealDesk
pub use Rattle.occ_base.specs as occ_base
