pub mod Crash
pub mod Device
pub mod Frames
pub mod Journal
pub mod Memory
pub mod Past
