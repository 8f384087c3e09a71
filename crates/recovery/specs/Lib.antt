pub mod Kept
pub mod Orders
pub mod Recovered
pub mod AnyRecovery
pub mod Lives
pub mod Texts
pub mod Drilled
pub mod Headline
pub mod AtStart
pub mod Succession
pub use Rattle.recovery_plan.specs as recovery_plan
pub use Rattle.claims.specs as claims
pub use Rattle.replay.specs as replay
pub use Rattle.replay.specs.master
pub use Rattle.replay.specs.driving
