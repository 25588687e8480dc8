pub mod Cells
pub mod Tests
pub mod Faults
