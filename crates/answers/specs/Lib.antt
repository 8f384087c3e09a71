pub mod Texts
pub mod Errors
pub use Rattle.recovery.specs.recovery_plan
pub use Rattle.recovery.specs.claims
pub use Rattle.recovery.specs.replay
pub use Rattle.recovery.specs as recovery
pub use Rattle.recovery.specs.driving
