pub mod Mending
pub mod Left
pub mod Laws
