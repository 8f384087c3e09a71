pub mod ClientLines
pub mod Lines
pub use Rattle.cluster.proofs as of_cluster
pub use Rattle.store_clients.proofs.of_locked_log
