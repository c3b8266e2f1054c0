pub mod Lists
pub mod Turns
pub mod Decided
pub mod Joined
pub mod Ways
pub mod Making
