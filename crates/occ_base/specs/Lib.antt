pub mod Event
pub mod Names
pub mod Width
