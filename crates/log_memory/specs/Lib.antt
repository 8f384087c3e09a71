pub mod Memory
pub mod Past
pub mod Acked
pub mod Covered
pub mod Intact
pub mod Steps
pub mod Laws
pub mod Same
pub mod Ops
pub mod Knowing
pub mod Loading
pub mod Fleet
pub use Rattle.log_bytes.specs.log_laws
pub use Rattle.log_bytes.specs as log_bytes
