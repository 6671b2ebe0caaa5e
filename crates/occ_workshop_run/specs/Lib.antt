pub mod Words
pub mod Explained
pub mod Answers
pub mod Ran
