pub mod Turns
pub use Rattle.master.specs as master
