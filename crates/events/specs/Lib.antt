pub mod Kinds
pub mod Numbers
pub mod Starts
pub mod Events
pub mod First
pub mod Noting
pub mod Accepted
