pub mod Kept
pub mod Room
pub mod Whole
pub mod File
