pub mod Changes
pub mod Indexed
pub mod HeadsInForce
pub mod Adding
pub mod LoadedCore
pub mod Found
pub mod Gets
pub mod Tallied
