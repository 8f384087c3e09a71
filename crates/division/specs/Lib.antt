pub mod Placed
pub mod Groups
pub mod Texts
pub mod Division
pub mod Gathering
