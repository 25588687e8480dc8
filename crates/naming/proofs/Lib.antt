pub mod Filled
pub mod InFunction
pub mod MadeLaws
pub mod Marks
pub mod NumbersLaws
