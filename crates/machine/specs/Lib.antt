pub mod Places
pub mod Standing
pub mod Phis
pub mod Runs
