pub mod Lines
pub mod Groups
pub mod Runs
pub mod Turns
pub mod Skips
