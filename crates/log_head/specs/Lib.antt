pub mod Head
pub mod Steps
pub mod Next
pub mod Log
pub mod Laws
pub use Rattle.log_laws.specs as log_laws
