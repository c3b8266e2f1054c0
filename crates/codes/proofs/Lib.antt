pub mod Codes
pub mod Bitwise
