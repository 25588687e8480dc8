pub mod LibLaws
