pub mod Records
pub mod Stores
pub mod Limits
pub mod Answers
pub mod Trees
