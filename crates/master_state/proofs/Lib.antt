pub mod Indexing
pub mod Imaging
pub mod Refusals
pub mod Homes
pub mod Finding
pub mod Counted
pub mod Beginning
pub mod Posted
pub mod Passing
pub mod Forgetting
pub mod Holding
pub mod Naming
pub mod Rising
pub mod LogIds
pub mod Recounts
pub mod LostCore
pub mod LostWaits
pub mod Calm
pub mod FreeVictims
pub mod PassIds
pub mod SurvivorLens
pub mod Tallying
pub use Rattle.cleaner.proofs as cleaner
pub use Rattle.tally.proofs as tally
pub use Rattle.log_memory.proofs.log_laws
pub use Rattle.log_memory.proofs.log_bytes
pub use Rattle.log_memory.proofs as log_memory
