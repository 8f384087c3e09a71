pub mod Failures
pub mod Moments
pub mod Torn
pub mod Writing
