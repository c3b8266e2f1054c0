pub mod Subjects
pub mod Settings
pub mod Fields
pub mod Steps
pub mod Meaning
pub mod Places
pub mod Keys
