pub mod Config
pub mod Images
pub mod Data
pub mod Kept
pub mod Live
pub mod Ledger
pub mod Log
pub mod Forgetting
pub mod Budget
pub mod Causes
pub mod Steps
pub mod Index
pub mod Invariant
pub mod Waits
pub mod Names
pub mod Loading
pub mod Sizes
pub use Rattle.cleaner.specs.compactor
pub use Rattle.cleaner.specs as cleaner
pub use Rattle.tally.specs as tally
pub use Rattle.log_memory.specs.log_laws
pub use Rattle.log_memory.specs.log_bytes
pub use Rattle.log_memory.specs as log_memory
