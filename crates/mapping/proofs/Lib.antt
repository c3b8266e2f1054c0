pub mod Spots
pub mod Tables
pub mod Filled
pub mod Laws
