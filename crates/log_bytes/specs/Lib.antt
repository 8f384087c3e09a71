pub mod Text
pub mod Spelled
pub mod Ops
pub mod Choice
pub mod Sound
pub mod Laws
pub mod Segments
pub mod Runs
pub mod Keeping
pub mod Held
pub use Rattle.log_laws.specs as log_laws
