pub mod Classes
pub mod Packed
pub mod Letters
pub mod Chains
