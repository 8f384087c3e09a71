pub mod Events
pub mod Moments
pub mod Noted
pub mod Standing
pub mod Disk
