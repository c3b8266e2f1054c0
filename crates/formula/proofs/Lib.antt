pub mod Evals
pub mod Ends
pub mod Tempo
pub mod Values
pub mod Truths
pub mod Parts
pub mod Stands
pub mod Spelt
pub mod Views
mod Backward
mod Openings
mod Bytes
mod Figures
mod Heads
mod Found
mod Scan
mod Rows
mod Made
