pub mod Accepted
pub mod Asked
pub mod BlocksLaws
pub mod Parts
pub mod Shapes
