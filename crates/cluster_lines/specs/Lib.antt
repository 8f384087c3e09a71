pub mod Clients
pub mod Lines
pub use Rattle.cluster.specs as cluster
pub use Rattle.store_clients.specs as store_clients
pub use Rattle.store_clients.specs.locked_log
