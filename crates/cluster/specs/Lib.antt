pub mod Wills
pub mod Lives
pub mod Shows
pub mod Counted
pub mod Looks
pub mod Found
pub mod Told
pub mod Served
pub mod Waits
pub mod Tended
pub mod Forgetting
pub use Rattle.answers.specs.driving.master
pub use Rattle.answers.specs.driving
pub use Rattle.answers.specs.replay
pub use Rattle.answers.specs.recovery
pub use Rattle.answers.specs as answers
pub use Rattle.raw_answers.specs as raw_answers
