pub mod Acks
pub mod Retiring
