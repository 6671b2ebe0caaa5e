mod Lists
mod Growing
mod Steps
mod Named
pub mod Answering
pub mod TracesTold
