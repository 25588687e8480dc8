pub mod AcceptingLaws
pub mod CallLaws
pub mod TranslationLaws
pub mod WrittenLaws
pub mod Examples
pub mod Promise
