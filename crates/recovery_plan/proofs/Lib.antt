pub mod Bests
pub mod Digests
pub mod Heads
pub mod Lookups
pub mod Lost
pub mod Losses
pub mod Plans
