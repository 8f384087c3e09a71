pub use Rattle.cleaner.specs.compactor
pub use Rattle.cleaner.specs as cleaner
pub use Rattle.master_state.specs.log_laws
pub use Rattle.master_state.specs.log_bytes
pub use Rattle.master_state.specs.log_memory
pub use Rattle.master_state.specs as master_state
pub use Rattle.master_rolls.specs as master_rolls
pub use Rattle.master_space.specs as master_space
pub use Rattle.master_failover.specs as master_failover
