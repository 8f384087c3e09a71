pub mod Printed
pub mod Fronts
pub use Rattle.recovery.proofs.of_driving
pub use Rattle.recovery.proofs as of_recovery
