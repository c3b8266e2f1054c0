pub mod Replays
pub mod Acts
pub mod Law
pub mod More
pub mod Asked
