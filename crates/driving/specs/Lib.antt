pub mod Rolls
pub mod Commands
pub mod Cleans
pub mod Served
pub mod GoesOn
pub use Rattle.master.specs.master_core
pub use Rattle.master.specs as master
