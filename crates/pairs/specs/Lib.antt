pub mod Pairs
pub mod Agreement
pub mod Judged
pub mod Theorems
pub mod Examples
