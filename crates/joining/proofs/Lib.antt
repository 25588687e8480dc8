pub mod Begun
pub mod Parts
pub mod Steps
pub mod Ends
