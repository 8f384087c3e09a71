pub mod Acks
pub mod Files
pub mod Members
pub mod Moments
pub mod Fleet
pub mod Noting
pub mod NotingLaws
