pub mod Heads
pub mod HeadLog
pub mod Digests
pub mod Waiting
pub mod RisingIds
pub mod Rolls
pub mod RollLog
pub mod SettledLog
pub mod Losses
pub mod NextOps
pub mod Listing
pub use Rattle.log_laws.proofs as log_laws
