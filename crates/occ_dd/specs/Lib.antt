pub mod Assignment
pub mod Diagram
pub mod Label
pub mod Memo
pub mod Table
pub mod Choices
pub mod Grows
pub mod Store
pub use Rattle.occ_base.specs as occ_base
