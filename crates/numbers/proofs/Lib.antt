pub mod MovesLaws
pub mod Parts
pub mod Zeros
