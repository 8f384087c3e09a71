pub mod Sessions
pub mod LongerLives
pub mod Succeeding
pub mod Commanding
pub mod LaterMasters
pub mod Tried
mod Forgetting
mod Skipping
pub mod Turning
pub use Rattle.cluster_lines.proofs.of_locked_log
pub use Rattle.next_master.proofs as of_next_master
