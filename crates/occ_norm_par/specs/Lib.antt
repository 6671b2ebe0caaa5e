pub mod Sides
pub mod Spans
pub mod Joined
pub mod Joints
pub mod States
