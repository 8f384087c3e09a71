pub use Rattle.locked_log.specs.master
pub use Rattle.locked_log.specs as locked_log
