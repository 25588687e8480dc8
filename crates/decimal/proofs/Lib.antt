pub mod DigitsLaws
pub mod RangesLaws
pub mod WordsLaws
pub mod Writings
