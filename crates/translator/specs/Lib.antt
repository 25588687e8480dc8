pub mod Filling
pub mod Sizes
pub mod Source
