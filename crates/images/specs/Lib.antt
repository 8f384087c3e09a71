pub mod Image
pub mod Images
pub mod Sorted
pub mod Place
pub mod Steps
pub mod Laws
