pub mod Runs
pub mod Spaced
