use Rattle.std.proofs.Common.{◌≡◌, ◌≤◌, length, map, filter, take, drop}
use Rattle.master_state.specs.Steps.{lost_waiting, still_waits}
use Rattle.master_state.proofs.losing.lose_waiting.Given as goal

-- those before the place that still wait are at the front, and those from it on are as they were
abbrev pub invariant-loop-place : goal.invariant-loop-place
invariant-loop-place l =
    (l.kept ≤ l.place) × (l.place ≤ length l.initial.waiting.items)
    × (length l.waiting.items ≡ length l.initial.waiting.items)
    × (take l.kept l.waiting.items
    ≡ filter still_waits (map (lost_waiting l.config l.failed l.backup) (take l.place l.initial.waiting.items)))
    × (drop l.place l.waiting.items ≡ drop l.place l.initial.waiting.items)
