pub mod WordLaws
pub mod ArgumentLaws
