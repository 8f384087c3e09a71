pub mod Texts
pub mod Filling
pub mod Seals
pub mod Passes
pub mod KeptLengths
pub mod Walks
pub mod Laws
pub use Rattle.compactor.specs as compactor
