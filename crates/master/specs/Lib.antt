pub mod World
pub mod Keeps
pub mod Pushes
pub mod Passes
pub mod Survive
pub mod Valid
pub mod Steps
pub mod Laws
pub mod Loading
pub mod Registry
pub mod Placed
pub mod Invariant
pub mod Shown
pub mod Segments
pub mod Left
pub use Rattle.master_core.specs.cleaner
pub use Rattle.log_head.specs.log_laws
pub use Rattle.master_core.specs.log_bytes
pub use Rattle.master_core.specs.log_memory
pub use Rattle.log_head.specs as log_head
pub use Rattle.master_core.specs.master_state
pub use Rattle.master_core.specs.master_rolls
pub use Rattle.master_core.specs.master_space
pub use Rattle.master_core.specs.master_failover
pub use Rattle.master_core.specs as master_core
