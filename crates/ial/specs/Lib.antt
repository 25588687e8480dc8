pub mod Verdicts
pub mod Runs
pub mod Calls
pub mod Demand
pub mod Ignored
pub mod Predecessors
pub mod RoundTrip
