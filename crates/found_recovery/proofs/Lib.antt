pub mod Keeping
pub mod Joining
