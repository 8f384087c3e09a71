pub mod Low
pub mod Tends
pub mod Rounds
pub use Rattle.driving.specs as driving
