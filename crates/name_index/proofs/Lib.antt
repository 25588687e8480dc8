pub mod ChainLaws
pub mod Distinct
pub mod Ends
pub mod InTable
