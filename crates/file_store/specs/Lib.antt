pub mod Started
pub mod Groups
