pub mod Calls
pub mod Rulings
pub mod Tries
pub mod Histories
pub mod Translated
pub mod Possible
