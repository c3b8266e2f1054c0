pub mod Along
pub mod One
