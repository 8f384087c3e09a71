pub mod Outlines
pub mod MasterSteps
pub mod PassSteps
pub mod AnyStep
pub mod Ops
pub mod Losses
pub mod Heads
pub mod Pushes
pub mod Tries
pub mod LeastHeads
pub mod Turns
pub mod Digests
pub mod Calm
pub mod Cleaned
pub use Rattle.master.proofs as of_master
