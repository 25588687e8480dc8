pub mod Lists
pub mod Sections
