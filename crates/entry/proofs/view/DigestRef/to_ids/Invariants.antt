use Rattle.std.proofs.Common.{◌≡◌, ◌+◌, ◌*◌, ◌-◌, ◌++◌}
use Rattle.entry.specs.Format.{ids_at}
use Rattle.entry.proofs.view.DigestRef.to_ids.Given as goal

abbrev pub invariant-loop-i : goal.invariant-loop-i
invariant-loop-i l =
    l.ids.items ++ ids_at (l.self.count - l.i) (5 + 8 * l.i) l.self.text.now ≡ ids_at l.self.count 5 l.self.text.now
