pub mod Recording
pub mod Flaws
pub mod Spelling
pub mod Machine
pub mod Reading
pub mod Theorems
