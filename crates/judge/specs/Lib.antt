pub mod Numbers
pub mod Viewed
pub mod Tabled
pub mod Decided
pub mod Judging
pub mod Said
pub mod Laws
pub mod Keys
