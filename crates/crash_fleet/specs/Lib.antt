pub mod Same
pub mod Images
pub mod State
pub mod Opened
