pub mod Telling
pub mod Sessions
pub mod Runs
pub mod Turns
pub mod Program
pub use Rattle.next_master.specs.master
pub use Rattle.cluster_lines.specs.locked_log
pub use Rattle.next_master.specs as next_master
