pub use Rattle.locked_log.proofs as of_locked_log
