pub mod Configuration
pub mod Limits
pub mod Numbers
pub mod Succession
pub mod Recoveries
pub use Rattle.cluster.specs.master
pub use Rattle.cluster.specs.driving
pub use Rattle.cluster.specs.recovery
pub use Rattle.cluster.specs.answers
pub use Rattle.cluster.specs as cluster
