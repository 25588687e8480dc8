pub mod Escaping
pub mod Lines
pub mod NamesLaws
pub mod Spelled
