pub mod Loads
pub mod Ranks
