pub mod Rooms
pub mod Behind
pub mod Forests
pub mod Once
pub mod Levels
pub mod Framed
pub mod Options
