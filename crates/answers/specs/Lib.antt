pub mod Reasons
pub mod Cases
pub mod Numbers
pub mod Lent
