pub mod Keeping
pub mod Replaying
