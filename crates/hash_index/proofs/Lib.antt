pub mod Packing
pub mod Taken
pub mod Blocked
pub mod Addresses
pub mod Emptiness
pub mod Halves
