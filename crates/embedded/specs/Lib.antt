pub mod Options
pub mod Replies
pub mod Tries
pub mod Next
pub mod Losses
pub mod Lives
pub mod Stores
pub mod Survives
pub use Rattle.recovery.specs.master
pub use Rattle.recovery.specs.driving
pub use Rattle.recovery.specs.replay
pub use Rattle.recovery.specs as recovery
