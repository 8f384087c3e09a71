pub mod Change
pub mod Index
pub mod Counts
