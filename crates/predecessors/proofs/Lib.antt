pub mod RankedLaws
pub mod EndsLaws
pub mod ComparingLaws
pub mod SearchLaws
pub mod ListedLaws
pub mod ListingLaws
pub mod BareLaws
