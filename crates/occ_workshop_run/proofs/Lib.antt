mod Leaving
mod Once
