pub mod Tasks
pub mod Clients
pub mod Workloads
pub use Rattle.counted_calls.specs.master
pub use Rattle.counted_calls.specs.locked_log
