pub mod Placed
pub mod Objects
pub mod Claims
pub mod Bags
pub mod Listed
pub mod Props
pub mod Rebuilt
pub mod Texts
pub mod Settled
pub use Rattle.division.specs as division
