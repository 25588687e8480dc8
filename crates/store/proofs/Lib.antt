pub mod Between
pub mod CellsLaws
pub mod Finding
pub mod InsertingLaws
pub mod SearchLaws
pub mod WinnerLaws
