pub mod LoadSteps
pub mod LoadRoom
pub mod LoadList
pub mod AdoptedList
pub mod LoadTests
pub mod LoadedLogs
pub mod FullForWant
pub mod FullForFault
pub mod Needed
pub use Rattle.driving.proofs.of_master
pub use Rattle.driving.proofs as of_driving
