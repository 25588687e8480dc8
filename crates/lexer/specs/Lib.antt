pub mod Numbers
pub mod Actions
pub mod Runs
pub mod Contents
pub mod Lexing
pub mod Advancing
