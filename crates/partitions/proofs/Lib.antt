pub mod Parting
pub mod PartLists
