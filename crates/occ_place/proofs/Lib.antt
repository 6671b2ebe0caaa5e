pub mod Spelling
mod Interned
