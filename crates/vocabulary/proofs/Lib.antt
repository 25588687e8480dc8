pub mod ByteClasses
pub mod ChainLaws
pub mod LetterLaws
pub mod Packing
pub mod PlainNames
