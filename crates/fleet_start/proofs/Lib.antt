pub mod Asked
pub mod Begins
pub mod Places
pub mod Left
pub mod Listing
