pub mod Steps
pub mod Parted
pub mod Runs
