pub mod Digits
pub mod NamesLaws
