use Rattle.std.proofs.Common.{sym, ◌∙◌}
use Rattle.cluster_lines.proofs.ClientLines.{lent}
use Rattle.cluster_lines.proofs.clients.lend.Goals as goal

pub returns : goal.returns
returns g c =
    let o = c.clients_over-master in
    rw c.set.ensures (λ m is. lent c.args.node.now c.in-Up.up m o.result.master c.args.work.clients c.args.work.rounds
    o.result.calls o.result.is_known
    (sym c.replace.ensures.value ∙ c.in-Up.is)
    (record {
      goes_on = o.ensures.made;
      valid = o.ensures.valid;
      count = o.ensures.count;
      durable = o.ensures.durable;
      accepted = o.ensures.accepted;
    })
    o.ensures.known is)

pub clients_over-master-requires-clause-records : goal.clients_over-master-requires-clause-records
clients_over-master-requires-clause-records g c = λ κs out. sym
    (c.requires.records c.in-Up.up (sym c.replace.ensures.value ∙ c.in-Up.is))
