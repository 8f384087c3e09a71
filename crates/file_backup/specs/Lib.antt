pub mod Replay
pub mod Whole
pub mod Mirror
