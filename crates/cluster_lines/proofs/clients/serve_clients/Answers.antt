use Rattle.std.proofs.Common.{refl, ap}
use Rattle.lines.specs.Grammar.{Clients}
use Rattle.cluster.specs.Served.{is_up}
use Rattle.cluster_lines.proofs.ClientLines.{counts, down_clients, no_count, refuses}
use Rattle.cluster.proofs.Standing.{down_told, not_up}
use Rattle.cluster_lines.proofs.clients.serve_clients.Goals as goal

pub returns-in_default : goal.returns-in_default
returns-in_default g c =
    let node = c.args.node.now in
    let w = c.args.work in
    record {
      told = λ config. down_told node config (Clients w.clients w.rounds w.passes)
          (not_up node c.in_default.not-Up) refl;
      made = down_clients node w.clients w.rounds c.in_default.not-Up;
      known = λ calls is. refl;
    }

pub returns-in-Ok : goal.returns-in-Ok
returns-in-Ok g c =
    let w = c.args.work in
    let lends = c.lend-calls.ensures c.in-Up.field-0 c.in-Up.is in
    let all = counts c.args.node.now c.lend-calls.new.node c.in-Up.field-0 c.in-Up.is w.clients w.rounds w.passes
    c.lend-calls.result.0 c.lend-calls.result.1 lends
    c.in-Ok.calls c.in-Ok.is in
    record { told = all.0; made = all.1; known = λ calls is. all.2 }

pub returns-in-Err : goal.returns-in-Err
returns-in-Err g c =
    let w = c.args.work in
    let lends = c.lend-calls.ensures c.in-Up.field-0 c.in-Up.is in
    let all = refuses c.args.node.now c.lend-calls.new.node c.in-Up.field-0 c.in-Up.is w.clients w.rounds w.passes
    c.lend-calls.result.0 c.lend-calls.result.1 lends
    c.in-Err.fault c.in-Err.is c.refuse_call.new.node c.refuse_call.result c.refuse_call.ensures in
    record {
      told = all.0;
      made = all.1;
      known = λ calls is. absurd (no_count c.lend-calls.new.node c.refuse_call.new.node c.in-Err.fault
          c.refuse_call.result w.clients w.rounds calls c.refuse_call.ensures is);
    }

pub refuse_call-requires : goal.refuse_call-requires
refuse_call-requires g c = ap is_up (c.lend-calls.ensures c.in-Up.field-0 c.in-Up.is).is
