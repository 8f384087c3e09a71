use Rattle.std.proofs.Common.{◌≡◌, arith, rules, subst, take}
use Rattle.take_journal.specs.Device.{IsTornCut}
use Rattle.take_journal.proofs.Turning.{each_from, no_cut, passes}
use Rattle.take_journal.proofs.memory.MemoryDevice.shorten.Goals as goal

pub returns-clause-crash : goal.returns-clause-crash
returns-clause-crash c =
    let is : c.in_ok-next.next.items ≡ take c.args.len c.args.self.now.bytes.items = search rules in
    each_from c.turn.result c.args.self.now.past.items c.turn.new.past.items (IsTornCut c.args.len)
    c.args.self.now.bytes.items c.args.self.now.disk.items
    c.turn.new.bytes.items c.turn.new.disk.items c.in_ok-next.next.items c.in_ok-on_disk.on_disk.items
    c.turn.ensures.bytes c.turn.ensures.disk c.turn.ensures.err (no_cut c.args.len)
    (λ le. (c.args.len, omega arith, is))
    (subst (λ d. IsTornCut c.args.len d c.in_ok-on_disk.on_disk.items) c.deref-2.ensures.value c.in_ok-on_disk.ensures)

pub returns-clause-time : goal.returns-clause-time
returns-clause-time c = passes c.turn.result c.args.self.now _ c.turn.ensures.ok c.turn.ensures.err
