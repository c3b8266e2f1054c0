pub mod Places
pub mod Numbers
pub mod Tokens
pub mod Ranges
pub mod Reading
pub mod Standing
pub mod Building
pub mod Theorems
