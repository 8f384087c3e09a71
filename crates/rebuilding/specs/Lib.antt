pub mod Rebuilds
pub mod Turns
pub mod Orders
