pub mod Chains
pub mod Hashes
pub mod Names
