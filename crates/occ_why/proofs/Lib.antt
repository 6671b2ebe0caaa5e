mod Answering
mod Refusing
mod Telling
