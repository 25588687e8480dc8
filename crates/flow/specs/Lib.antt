pub mod Layout
pub mod Sized
pub mod Assignments
pub mod Leading
pub mod Prepared
