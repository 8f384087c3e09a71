pub mod Choosing
pub mod Counting
pub mod Objects
