pub mod Arcs
pub mod Made
pub mod Moves
pub mod Rule
pub mod Meant
pub mod Exact
pub mod Runs
