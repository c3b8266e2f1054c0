pub mod Faults
pub mod Lines
pub mod Outcome
pub mod Ruled
pub mod Predicted
