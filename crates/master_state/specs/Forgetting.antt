-- Records that are forgotten: what the limit on records counts, and what a forgetting leaves.
use Rattle.std.specs.Prelude.{◌≡◌, ◌+◌, ◌≤◌, ◌^◌, ℕ, length, min, max}
use Rattle.master_state.specs.Data.{MasterData}
use Rattle.master_state.specs.Log.{durable_now}

-- how many of the first n records may be forgotten: those that are durable
abbrev pub may_forget : ℕ → MasterData → ℕ
may_forget n d = min n (durable_now d)

-- Of the first n records the master forgets those that are durable, but for the last 1,024 of them at most. It forgets
-- no other record, and nothing else changes.
pub record ForgetsTo (n : ℕ) (d e : MasterData) : Type 0 where
  pub rest : e ≡ record d { forgotten = e.forgotten }
  pub least : d.forgotten ≤ e.forgotten
  pub most : e.forgotten ≤ max d.forgotten (may_forget n d)
  pub near : may_forget n d ≤ length d.history → may_forget n d ≤ 2 ^ 62 → may_forget n d ≤ e.forgotten + 1024
