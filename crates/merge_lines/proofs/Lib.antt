pub mod Examples
pub mod ShownLaws
pub mod ToldLaws
