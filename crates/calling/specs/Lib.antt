pub mod Accepting
pub mod Calls
pub mod Statements
