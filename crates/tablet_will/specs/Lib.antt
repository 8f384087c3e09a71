pub mod Texts
pub mod Order
pub mod Parts
pub mod Sizes
pub mod Rule
pub mod Starts
pub mod Laws
