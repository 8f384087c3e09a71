pub mod Moments
pub mod Own
