pub mod Objects
pub mod Asks
pub mod Threads
pub use Rattle.counted_calls.specs.master
pub use Rattle.counted_calls.specs.locked_log
