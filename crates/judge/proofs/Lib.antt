pub mod Rows
pub mod Agreeing
pub mod Deciding
pub mod Saying
pub mod Once
pub mod Granting
