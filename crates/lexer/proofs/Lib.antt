pub mod Amounts
pub mod Gathering
pub mod Acting
pub mod Standing
pub mod Stepping
pub mod Passing
