pub mod Mentions
pub mod Cells
pub mod State
pub mod Ending
