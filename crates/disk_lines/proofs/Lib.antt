pub mod Telling
pub mod Turning
pub mod Grouping
pub mod Places
pub mod Others
pub mod Shown
pub mod Past
