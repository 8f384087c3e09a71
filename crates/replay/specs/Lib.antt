pub mod Fresh
pub mod Adopting
pub mod Needs
pub use Rattle.packing.specs as packing
pub use Rattle.claims.specs as claims
pub use Rattle.rebuilding.specs as rebuilding
pub use Rattle.driving.specs as driving
pub use Rattle.driving.specs.master
