pub mod Noting
pub mod Judging
pub mod Replaying
pub mod Traces
