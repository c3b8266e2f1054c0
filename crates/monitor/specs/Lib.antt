pub mod Meaning
pub mod Either
