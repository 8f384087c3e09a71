pub use Rattle.counted_calls.proofs.of_master
pub use Rattle.counted_calls.proofs.of_locked_log
