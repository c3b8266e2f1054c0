pub mod Steps
pub mod Agreement
pub mod Reaching
pub mod Levels
pub mod Judged
