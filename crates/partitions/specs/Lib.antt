pub mod Parted
pub mod Setbacks
