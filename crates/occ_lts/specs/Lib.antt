pub mod Moves
pub mod Texts
pub mod Steps
pub mod Answers
pub mod Traces
pub mod Determined
