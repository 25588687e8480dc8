pub mod Parse
pub mod Text
