pub mod Order
pub mod Storing
pub mod Merging
pub mod Placing
pub mod Trees
pub mod RecordFacts
pub mod Cells
