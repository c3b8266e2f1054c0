pub mod Progress
pub mod Ruling
pub mod Stops
pub mod Telling
