pub mod Formed
pub mod Sets
pub mod Uses
pub mod Missed
