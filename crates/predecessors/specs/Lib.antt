pub mod Ends
pub mod Ranked
pub mod Comparing
pub mod Listing
