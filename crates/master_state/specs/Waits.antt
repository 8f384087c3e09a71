-- What waits to be sealed or freed.
use Rattle.std.specs.Prelude.{ℕ, Option, slice_get}
use Rattle.std.specs.Option.{option_map, option_and_then}
use Rattle.cleaner.specs.Passes.{next_seal as next_seal_of}
use Rattle.master_state.specs.declared.waiting.Waiting.{Waiting}
use Rattle.master_state.specs.Data.{MasterData}

-- the survivor that is sealed next, and the number of its replica; None if no pass is open, the open pass has something
-- to copy, or all is sealed
abbrev pub next_seal : MasterData → Option (ℕ × ℕ)
next_seal d = option_and_then (next_seal_of d.config.replicas d.closed) d.pass

-- the waiting segment that is freed next, and the number of its replica; None if no segment waits
abbrev pub next_free : MasterData → Option (ℕ × ℕ)
next_free d = option_map (λ (w : Waiting). (w.segment, w.freed)) (slice_get d.waiting 0)
