use Rattle.std.proofs.Common.{◌∙◌, ap, arith, length, subst}
use Rattle.take_journal.specs.Device.{IsTornWrite, overwritten}
use Rattle.take_journal.proofs.Turning.{each_from, no_write, passes}
use Rattle.take_journal.proofs.memory.MemoryDevice.write.Goals as goal

pub returns-clause-crash : goal.returns-clause-crash
returns-clause-crash c =
    each_from c.turn.result c.args.self.now.past.items c.turn.new.past.items
    (IsTornWrite c.args.at (length c.args.bytes.now)) c.args.self.now.bytes.items c.args.self.now.disk.items
    c.turn.new.bytes.items c.turn.new.disk.items c.in_ok-next.next.items c.in_ok-on_disk.on_disk.items
    c.turn.ensures.bytes c.turn.ensures.disk c.turn.ensures.err (no_write c.args.at (length c.args.bytes.now))
    (λ le. (
      c.args.bytes.now,
      omega arith,
      c.in_ok-next.ensures
          ∙ ap (overwritten c.args.at c.args.bytes.now) c.deref.ensures.value,
    ))
    (subst (λ d. IsTornWrite c.args.at (length c.args.bytes.now) d c.in_ok-on_disk.on_disk.items)
    c.deref-2.ensures.value c.in_ok-on_disk.ensures)

pub returns-clause-time : goal.returns-clause-time
returns-clause-time c = passes c.turn.result c.args.self.now _ c.turn.ensures.ok c.turn.ensures.err
