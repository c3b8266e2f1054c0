pub mod Numbers
pub mod Mapped
pub mod Rows
pub mod Latest
