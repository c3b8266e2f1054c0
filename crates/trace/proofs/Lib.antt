pub mod Bounds
pub mod Invariant
pub mod Fits
pub mod Agrees
pub mod Grows
pub mod Notes
pub mod Same
