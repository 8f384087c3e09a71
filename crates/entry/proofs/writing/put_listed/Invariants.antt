use Rattle.std.proofs.Common.{◌≡◌, ◌+◌, ◌*◌, ◌-◌, ◌≤◌, ◌++◌, length, take, vec_len, vec_capacity}
use Rattle.std.specs.List.{flat_map}
use Rattle.entry.specs.Format.{listed_bytes}
use Rattle.entry.proofs.writing.put_listed.Given as goal

abbrev pub invariant-loop-segment : goal.invariant-loop-segment
invariant-loop-segment l =
    (l.out.items ≡ l.initial.out.items ++ flat_map listed_bytes (take l.segment-index l.segments))
    × (vec_len l.out + 16 * (length l.segments - l.segment-index) ≤ vec_capacity l.out)
