pub mod Back
pub mod Moving
pub mod Steps
mod Agreeing
mod SamePrograms
mod Standing
mod Growing
mod Reading
mod Scripts
mod Telling
