pub mod Places
pub mod Traces
pub mod Replayed
pub mod Rising
pub mod Held
pub mod Going
