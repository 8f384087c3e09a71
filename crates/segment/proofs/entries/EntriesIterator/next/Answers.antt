use Rattle.std.proofs.Common.{List, length, ap, arith}
use Rattle.entry.specs.declared.entry.Entry.{Entry}
use Rattle.entry.specs.View.{shown}
use Rattle.segment.proofs.RowLemmas.{entries_in-rest}
use Rattle.segment.proofs.entries.EntriesIterator.next.Goals as goal

pub returns-in-Ok-clause-steps : goal.returns-in-Ok-clause-steps
returns-in-Ok-clause-steps c =
    entries_in-rest c.args.self.now.rest.now (shown c.in-Ok.entry) c.in-Ok.taken c.in-Ok.ensures.front

pub returns-in-Ok-clause-goes : goal.returns-in-Ok-clause-goes
returns-in-Ok-clause-goes c =
    let first = entries_in-rest c.args.self.now.rest.now (shown c.in-Ok.entry) c.in-Ok.taken c.in-Ok.ensures.front in
    record {
      on = λ finite. (tt, tt, omega (arith, ap (λ (es : List Entry). length es) first));
      keeps = tt;
      rests = λ finite. tt;
    }
