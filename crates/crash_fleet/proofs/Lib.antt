pub mod Sames
pub mod Holds
pub mod Showing
pub mod Cuts
pub mod Openings
