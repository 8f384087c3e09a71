pub mod Limit
pub mod Laws
