pub use Rattle.cleaner.proofs.compactor
pub use Rattle.cleaner.proofs as cleaner
pub use Rattle.master_state.proofs.log_laws
pub use Rattle.master_state.proofs.log_bytes
pub use Rattle.master_state.proofs.log_memory
pub use Rattle.master_state.proofs as master_state
pub use Rattle.master_commands.proofs as master_commands
pub use Rattle.master_rolls.proofs as master_rolls
pub use Rattle.master_space.proofs as master_space
pub use Rattle.master_failover.proofs as master_failover
