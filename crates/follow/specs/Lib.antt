pub mod Balance
pub mod Answers
pub mod Roles
pub mod Made
pub mod Filling
pub mod Looking
