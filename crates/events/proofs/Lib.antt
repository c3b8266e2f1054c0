pub mod Pushes
pub mod Accepted
pub mod Tables
