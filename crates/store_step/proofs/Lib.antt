pub use Rattle.master.proofs as of_master
