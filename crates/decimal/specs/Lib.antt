pub mod Meanings
pub mod Numbers
pub mod Writing
