pub mod WholeWill
pub mod Recovered
pub mod Retired
pub mod Halted
pub mod HowItEnds
pub mod NextConfig
pub mod WhatIsNeeded
pub mod NextLife
pub use Rattle.cluster.proofs.of_driving
pub use Rattle.cluster.proofs as of_cluster
