pub mod Texts
pub mod Reading
pub mod Effects
pub mod FleetOps
pub mod Choosing
pub mod Surviving
pub mod NewestHomes
pub mod GreatestOpened
pub mod Soundness
pub mod Fronts
pub mod Leaving
pub mod Heads
pub mod FleetRuns
pub mod SoundRuns
pub mod Keeping
pub mod Held
pub use Rattle.log_laws.proofs as log_laws
